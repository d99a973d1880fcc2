pub mod ColumnLemmas
pub mod CompilingLemmas
pub mod LastLemmas
pub mod ReadingLemmas
pub mod WordLemmas
mod Imports
