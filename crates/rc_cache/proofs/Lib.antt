mod FoundLemmas
