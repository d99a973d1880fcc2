pub mod ImpliedLemmas
