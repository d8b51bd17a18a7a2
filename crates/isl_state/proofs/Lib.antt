pub mod LiveLaws
pub mod StateLaws
pub mod ForgetLaws
pub mod LeftLaws
pub mod NarrowLaws
