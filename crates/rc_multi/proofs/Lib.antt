pub mod AnswerLemmas
pub mod ClassLemmas
pub mod CoverLemmas
pub mod UseLemmas
mod Imports
