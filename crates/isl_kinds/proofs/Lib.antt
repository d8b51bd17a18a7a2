pub mod PartLaws
pub mod WalkLaws
pub mod KindLaws
pub mod DeclaredLaws
pub mod PlaceLaws
pub mod KnownLaws
pub mod JoinedNamesLaws
pub mod ForgetLaws
