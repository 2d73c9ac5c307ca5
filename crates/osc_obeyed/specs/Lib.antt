-- to be believed, in reading order
pub mod Bodies
pub mod Freshness
pub mod Commands
