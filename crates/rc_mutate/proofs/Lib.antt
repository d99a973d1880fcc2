pub mod WriteLemmas
mod Imports
