pub mod Handing
pub mod Shapes
pub mod Takes
mod Imports
