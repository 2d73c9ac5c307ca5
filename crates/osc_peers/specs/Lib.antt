-- to be believed, in reading order
pub mod Sender
pub mod Turns
pub mod Roles
pub mod Rows
pub mod Peers
pub mod Examples
