pub mod WordLemmas
mod Imports
