pub mod LeftLaws
pub mod MeterLaws
pub mod OntoLaws
pub mod PairLaws
pub mod PlacesLaws
pub mod RegionLaws
pub mod UnderLaws
pub mod ValueLaws
