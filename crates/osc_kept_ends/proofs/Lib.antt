pub mod Drawing
pub mod ServerSteps
pub mod ClientSteps
pub mod PeerSteps
pub mod SharedLemmas
