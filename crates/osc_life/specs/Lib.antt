-- to be believed, in reading order
pub mod Replies
pub mod Doubting
pub mod Life
pub mod ServerHistory
pub mod LifeAnswer
pub mod Logged
pub mod Text
-- how the code is seen
pub mod Views
pub mod Agrees
pub mod Deciding
-- for the proofs
pub mod ErrorReplies
pub mod Judging
pub mod Replying
pub mod Restarting
