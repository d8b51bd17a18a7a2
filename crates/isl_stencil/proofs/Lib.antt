pub mod CutLemmas
pub mod GivenLemmas
