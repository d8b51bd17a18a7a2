pub mod FirstLaws
pub mod PaidLaws
