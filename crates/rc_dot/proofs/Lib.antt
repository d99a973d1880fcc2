mod DotLemmas
mod Imports
