mod AdequacyLemmas
mod JudgeLemmas
mod PlacementLemmas
mod Imports
