-- to be believed, in reading order
pub mod Room
pub mod Laws
