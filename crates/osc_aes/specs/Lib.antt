-- to be believed, in reading order
pub mod Field
pub mod SubstitutionBox
pub mod Aes128
-- how the code is seen
pub mod Views
pub mod Keyed
-- for the proofs
pub mod RoundWords
pub mod Lanes
