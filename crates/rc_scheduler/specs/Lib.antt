pub mod Left
pub mod Processes
