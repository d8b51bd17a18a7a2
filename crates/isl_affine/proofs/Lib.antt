pub mod DivisionLaws
pub mod FormLaws
pub mod NestedLaws
pub mod RowLaws
pub mod ScopeLaws
pub mod TermLaws
