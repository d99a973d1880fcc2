pub mod CursorLemmas
pub mod ListLemmas
pub mod OpeningLemmas
pub mod PrintLemmas
pub mod RelationLemmas
pub mod StageLemmas
pub mod EntryLemmas
pub mod JudgeLemmas
mod Imports
