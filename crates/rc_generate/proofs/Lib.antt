pub mod SummaryLemmas
pub mod TextLemmas
pub mod GeneratingLemmas
