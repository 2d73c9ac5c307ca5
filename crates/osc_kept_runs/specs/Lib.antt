-- to be believed
pub mod KeptRuns
