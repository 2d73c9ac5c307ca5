pub mod Sequences
pub mod Insertion
pub mod Askings
pub mod Cuts
pub mod Decompositions
pub mod Splittings
pub mod SplitFaults
