mod ExprLaws
mod LineLaws
mod NameLaws
mod TextLaws
pub mod TreeLaws
