-- to be believed, in reading order
pub mod Window
pub mod Taken
pub mod Laws
pub mod Gate
-- how the code is seen
pub mod Views
pub mod SpentMask
