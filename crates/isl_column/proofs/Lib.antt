pub mod DarkShadowLemmas
pub mod PartsLemmas
pub mod SaturatedLaws
pub mod SearchLemmas
pub mod SplinterLemmas
