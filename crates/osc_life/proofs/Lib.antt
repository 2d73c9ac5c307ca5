pub mod Lives
pub mod ChallengeLengths
pub mod Showing
pub mod Judgments
pub mod SealedReplies
