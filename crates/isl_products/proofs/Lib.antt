pub mod PickLaws
pub mod PlaceLaws
pub mod LayoutLaws
pub mod PairLaws
pub mod WideLaws
pub mod NearLaws
pub mod HasLaws
pub mod RemoveLaws
