-- to be believed, in reading order
pub mod OptionNumbers
pub mod OptionSpelling
pub mod Datagram
pub mod Inner
pub mod Fault
pub mod Text
pub mod Code
pub mod Search
pub mod Interpreted
pub mod Class
pub mod Writing
pub mod Laws
-- how the code is seen
pub mod Views
pub mod Reading
pub mod Writer
pub mod Held
pub mod Drafts
-- for the proofs
pub mod Seen
pub mod Ends
pub mod OptionText
pub mod PayloadLength
