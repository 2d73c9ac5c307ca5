pub mod PendingPlaces
pub mod Tables
pub mod Bits
pub mod Waits
pub mod Servers
pub mod Singles
pub mod NumberSteps
pub mod ServerSteps
