pub mod DistinctLaws
pub mod JoinedLaws
pub mod LiteralNameLaws
pub mod NamingLaws
pub mod OrderedLaws
pub mod RowOrderLaws
mod SumLaws
