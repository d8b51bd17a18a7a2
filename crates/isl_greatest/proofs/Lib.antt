mod AskedLaws
mod CandidateLaws
pub mod DecideLaws
mod ExpressedLaws
pub mod FaultLaws
pub mod KeptLaws
mod PartsLaws
mod QuasiLaws
mod QuestionLaws
mod SearchLaws
pub mod StateLaws
mod StepLaws
mod SumLaws
