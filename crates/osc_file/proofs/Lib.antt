pub mod NumberTexts
pub mod RecordTexts
