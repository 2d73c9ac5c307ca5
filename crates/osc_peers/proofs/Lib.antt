pub mod OneSource
pub mod Turning
pub mod Senders
pub mod Peering
pub mod Crossing
pub mod Meeting
pub mod TwoSources
pub mod Rows
