pub mod FixedLaws
pub mod OneSidedLaws
pub mod PairLaws
pub mod ShearLaws
