pub mod GroupLaws
pub mod PassLaws
pub mod SameLaws
pub mod TextLaws
