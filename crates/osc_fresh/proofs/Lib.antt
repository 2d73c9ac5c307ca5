pub mod Challenging
pub mod Dues
pub mod EchoAnswers
pub mod EchoSides
mod Budgets
