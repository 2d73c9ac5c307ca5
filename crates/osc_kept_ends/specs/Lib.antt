-- to be believed, in reading order
pub mod Numbering
pub mod EchoNumber
pub mod Refusals
pub mod Replacing
pub mod KeptServing
pub mod KeptTaking
pub mod KeptAsking
pub mod Peering
pub mod Sharing
-- how the code is seen
pub mod Views
pub mod Owning
pub mod PeerOwning
pub mod SharedOwning
-- for the proofs
pub mod TakingBack
