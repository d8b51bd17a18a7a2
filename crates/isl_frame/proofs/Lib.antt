pub mod SumLaws
pub mod SolvedLaws
pub mod LowestLaws
pub mod FrameLaws
pub mod NeededLaws
pub mod ZipLaws
