-- to be believed, in reading order
pub mod Cbor
pub mod PartialIv
pub mod Algorithm
pub mod Nonce
pub mod AdditionalData
pub mod Features
pub mod Fingerprint
pub mod SecurityContext
pub mod Senders
pub mod Derivation
pub mod ContextRefusal
pub mod OscoreValue
pub mod OptionRefusal
pub mod Reserving
pub mod Laws
-- how the code is seen
pub mod Views
-- for the proofs
pub mod PrivateWords
