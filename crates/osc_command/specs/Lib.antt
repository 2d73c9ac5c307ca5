pub use Rattle.clap.specs.Matches
pub mod Calls
