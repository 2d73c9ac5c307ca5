-- to be believed, in reading order
pub mod RecordBytes
pub mod PeerBytes
pub mod PeerLaws
