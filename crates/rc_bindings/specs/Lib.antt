pub mod Bindings
pub mod BindingsLaws
pub mod Registers
pub mod RegistersLaws
pub mod Imports
