mod RestrictedLaws
mod ScopeLaws
mod ChainLaws
mod BoundLaws
mod FormulaLaws
mod SizeLaws
