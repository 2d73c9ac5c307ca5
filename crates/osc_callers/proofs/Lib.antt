pub mod Drafts
pub mod GoingThrough
