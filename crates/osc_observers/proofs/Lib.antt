pub mod Daily
pub mod Listed
pub mod Once
pub mod OneEntry
