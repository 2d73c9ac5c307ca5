-- to be believed, in reading order
pub mod Wishing
pub mod Admitting
pub mod Echoing
pub mod WithEcho
pub mod Following
pub mod Errors
pub mod Text
pub mod Budgeting
-- how the code is seen
pub mod Views
-- for the proofs
pub mod Sides
