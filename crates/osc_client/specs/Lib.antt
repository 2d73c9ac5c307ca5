-- to be believed, in reading order
pub mod ClientHistory
pub mod ClientAnswer
pub mod Text
-- how the code is seen
pub mod Views
pub mod Agrees
pub mod ClientDeciding
-- for the proofs
pub mod Awaited
pub mod Requesting
