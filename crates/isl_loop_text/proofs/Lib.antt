mod ExprLaws
mod LineLaws
