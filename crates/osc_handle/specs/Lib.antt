-- to be believed, in reading order
pub mod SlotBytes
pub mod ServerParts
pub mod TableBytes
pub mod UnansweredBytes
pub mod TicketBytes
pub mod SingleServerBytes
pub mod PendingBytes
pub mod Reserved
pub mod KeptServerBytes
-- how the code is seen
pub mod ServerBytes
-- for the proofs
pub mod Held
pub mod Noting
pub mod TableSteps
