pub mod Masks
pub mod Agreements
pub mod Marks
pub mod Alike
