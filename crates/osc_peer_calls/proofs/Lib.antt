mod CountedPeers
pub mod OneMore
mod ServerSteps
mod ClientSteps
mod PeerStarts
pub mod CallLemmas
mod HeardEchoes
mod FreshCalls
pub mod TakenClauses
mod NodeClauses
