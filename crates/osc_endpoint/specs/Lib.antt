-- to be believed, in reading order
pub mod ServerAnswer
pub mod Senders
pub mod ServerRun
pub mod Tickets
pub mod ClientRun
-- how the code is seen
pub mod Views
pub mod Agrees
pub mod Deciding
-- for the proofs
pub mod Heads
pub mod Replying
pub mod Restarting
pub mod Serving
pub mod Table
