pub mod NumberLemmas
pub mod BindingLemmas
pub mod WordsLemmas
