-- to be believed, in reading order
pub mod Received
pub mod Observing
-- how the code is seen
pub mod Views
