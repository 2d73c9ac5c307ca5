pub mod Xor
pub mod PaddedBlocks
pub mod Streams
pub mod Macs
pub mod Tags
pub mod Protections
