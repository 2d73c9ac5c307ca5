pub mod GivingWay
pub mod Showing
pub mod Asking
pub mod ClientDecisions
pub mod ClientDeliveries
pub mod ClientRequests
