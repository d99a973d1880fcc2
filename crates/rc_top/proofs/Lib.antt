pub mod EndLemmas
pub mod RanLemmas
pub mod CountLemmas
pub mod HeadlineLemmas
mod Imports
