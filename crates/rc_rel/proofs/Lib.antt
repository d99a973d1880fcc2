pub mod RowLemmas
pub mod ChangeLemmas
pub mod RunLemmas
mod Imports
