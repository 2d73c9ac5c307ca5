-- to be believed, in reading order
pub mod Uint
pub mod BlockValue
pub mod InBlocks
pub mod Cut
pub mod Taking
pub mod RequestTag
pub mod Laws
-- how the code is seen
pub mod Views
pub mod Text
-- for the proofs
pub mod Judging
