pub mod Deciding
pub mod Notifying
pub mod Planning
pub mod Requesting
pub mod Responding
pub mod Settling
pub mod Text
