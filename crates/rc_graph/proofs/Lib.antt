pub mod CircleLemmas
pub mod EdgeLemmas
pub mod OrderLemmas
mod Imports
