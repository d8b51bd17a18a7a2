pub mod SinkLaws
pub mod SourceLaws
pub mod TurnedLaws
