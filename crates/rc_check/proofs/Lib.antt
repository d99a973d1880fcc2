mod RuleLemmas
mod JudgeLemmas
mod Imports
