pub mod AskedLemmas
pub mod CopyLemmas
pub mod DeclaringLemmas
pub mod ExtendingLemmas
pub mod FaultLemmas
pub mod FrameLemmas
pub mod FurtherLemmas
pub mod ResumingLemmas
pub mod EvenRowsLemmas
pub mod RowsLemmas
pub mod NumberLemmas
pub mod PlanningLemmas
pub mod SendLemmas
pub mod SessionLemmas
pub mod WithinLemmas
mod Imports
