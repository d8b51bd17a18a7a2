pub mod OrderedValueLaws
mod PieceOrderLaws
pub mod TextLaws
