pub mod CallLemmas
pub mod RawLemmas
pub mod WordLemmas
pub mod ReadingLemmas
pub mod PartLemmas
mod OpenReadingLemmas
mod ShapesReadingLemmas
mod Imports
