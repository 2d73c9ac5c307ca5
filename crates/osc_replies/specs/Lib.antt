-- to be believed, in reading order
pub mod Memory
pub mod Laws
pub mod Answering
pub mod Taking
-- how the code is seen
pub mod Views
pub mod Requested
-- for the proofs
pub mod Asked
