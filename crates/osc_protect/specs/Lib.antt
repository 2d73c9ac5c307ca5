-- to be believed, in reading order
pub mod OptionSets
pub mod Usage
pub mod Head
pub mod Protection
pub mod Sealed
pub mod SealRefusals
pub mod Sealing
pub mod Refusals
pub mod Opening
pub mod Stages
pub mod Laws
pub mod CipherLaws
pub mod Text
-- how the code is seen
pub mod ContextCipher
pub mod Views
pub mod StageViews
-- for the proofs
pub mod Found
pub mod Split
pub mod Checks
pub mod Ends
pub mod Halves
pub mod Layers
