mod Example
pub mod QueryLemmas
mod Imports
