-- to be believed
pub mod ContextBytes
