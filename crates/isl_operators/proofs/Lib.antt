pub mod NamesLaws
pub mod ElementLaws
pub mod WideLaws
pub mod FaultLaws
pub mod SpaceLaws
pub mod MadeLaws
mod PairingLaws
mod ApplicationLaws
