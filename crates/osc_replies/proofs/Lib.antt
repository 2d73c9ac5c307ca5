pub mod NewHeads
pub mod Asking
pub mod Keeping
pub mod Apart
pub mod SameReplies
pub mod Copies
