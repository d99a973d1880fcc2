mod ApplyLemmas
mod CheckLemmas
mod DifferLemmas
pub mod LentLemmas
mod LockLemmas
mod PickLemmas
mod PlaceLemmas
mod ClassLemmas
mod ReadLemmas
mod SeekLemmas
pub mod RevertLemmas
pub mod RunLemmas
pub mod StepLemmas
pub mod ReadStepLemmas
pub mod CheckStepLemmas
pub mod ChangeLemmas
pub mod ConditionLemmas
pub mod UpdateLemmas
pub mod ReplaceLemmas
mod SharedLemmas
pub mod GoLemmas
mod BackLemmas
mod EmitLemmas
mod StripeLemmas
mod EdgeRowLemmas
mod AccessLemmas
mod AccessRunLemmas
mod ArriveLemmas
mod LateLemmas
mod EdgeChangeLemmas
mod InsertLemmas
mod Imports
