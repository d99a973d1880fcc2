pub mod MovesLemmas
mod PartingLemmas
mod Imports
