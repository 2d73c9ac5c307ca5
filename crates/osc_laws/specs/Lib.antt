-- to be believed, in reading order
pub mod Laws
pub mod Waiting
pub mod Senders
pub mod ClientLaws
pub mod Headline
pub mod ClientHeadline
pub mod Plainness
pub mod Arriving
pub mod Exchange
pub mod ExchangeRuns
pub mod OneContext
-- for the proofs
pub mod AnswerLaws
