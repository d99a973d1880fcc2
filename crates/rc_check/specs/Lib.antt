pub mod Sets
pub mod SetsLaws
