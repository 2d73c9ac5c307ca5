pub mod DeliveriesKept
pub mod EchoRequests
pub mod PeerCallLemmas
pub mod PeerRunLemmas
pub mod FreshSteps
