pub mod DistinctLaws
pub mod FormLaws
pub mod NameLaws
pub mod NamesLaws
pub mod PlacesLaws
pub mod ValuationLaws
