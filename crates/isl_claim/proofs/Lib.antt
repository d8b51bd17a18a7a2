pub mod SideLaws
pub mod ProofLaws
pub mod FoundLaws
pub mod TextLaws
