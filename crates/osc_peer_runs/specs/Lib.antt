-- to be believed
pub mod PeerRuns
-- how the code is seen
pub mod PeerCalls
