pub mod Apart
pub mod ApartLaws
pub mod Extended
pub mod ExtendedLaws
