pub mod BestLemmas
pub mod EdgeLemmas
pub mod GoodLemmas
pub mod PassLemmas
mod Imports
