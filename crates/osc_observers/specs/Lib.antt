-- to be believed, in reading order
pub mod Watching
pub mod Table
pub mod Laws
-- how the code is seen
pub mod Views
pub mod Finding
pub mod Calls
