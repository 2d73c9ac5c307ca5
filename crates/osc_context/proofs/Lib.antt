pub mod Choices
pub mod PartialIvs
pub mod NonceTexts
pub mod Masks
pub mod FlagBytes
pub mod ValueParts
pub mod FrontLens
pub mod CutValues
pub mod OneValue
pub mod FirstRefusals
pub mod Decided
pub mod WrittenValues
pub mod Readings
pub mod KnownLengths
pub mod OneAdditional
pub mod SameContexts
pub mod ContextRefusals
mod Differences
