pub mod HalfLaws
pub mod IdleLaws
pub mod MeetingLaws
pub mod NeededLaws
pub mod PartLaws
pub mod PieceLaws
pub mod SweepLaws
pub mod ValueLaws
