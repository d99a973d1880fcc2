pub mod AnswerLemmas
pub mod DrawingLemmas
pub mod PlanLemmas
pub mod WriteLemmas
pub mod RanLemmas
pub mod SummingLemmas
pub mod AuditLemmas
pub mod ByHandLemmas
mod OpenLemmas
mod Imports
