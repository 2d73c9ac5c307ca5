-- to be believed, in reading order
pub mod Asking
pub mod AskRefusals
pub mod Uri
pub mod UriLaws
pub mod Splitting
pub mod SplitRefusals
pub mod Text
-- how the code is seen
pub mod UriViews
-- for the proofs
pub mod Between
