pub mod Passing
pub mod AnswerSteps
pub mod AskSteps
pub mod Beginning
pub mod Plainness
