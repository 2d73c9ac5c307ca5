-- to be believed, in reading order
pub mod Separating
pub mod Incoming
pub mod MessageIds
pub mod Sending
pub mod Table
pub mod Hearing
pub mod Arriving
pub mod Taking
pub mod Laws
pub mod ArrivingLaws
-- how the code is seen
pub mod Slots
pub mod Views
pub mod Places
pub mod Finding
pub mod Calls
pub mod HearingViews
pub mod HearingFinding
pub mod HearingCalls
pub mod LayerViews
