pub mod NumberText
pub mod RecordText
pub mod Newest
pub mod Views
