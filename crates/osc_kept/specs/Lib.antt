-- to be believed, in reading order
pub mod World
pub mod Premises
pub mod Freshness
pub mod Receiving
pub mod Claims
pub mod Among
pub mod KeptPlainness
pub mod GoingOn
pub mod InWorld
pub mod EchoNumbers
pub mod RunsInWorld
pub mod CallsInWorld
pub mod Examples
