pub mod Counting
pub mod GoingOn
pub mod PeerCalls
pub mod Hearing
pub mod AskingAnew
