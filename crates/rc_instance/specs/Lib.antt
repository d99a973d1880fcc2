pub mod Index
pub mod Fragments
pub mod Instance
pub mod InstanceLaws
pub mod RelationLaws
pub mod Room
pub mod Imports
