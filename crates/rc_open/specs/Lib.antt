pub mod ShapeText
pub mod ExtendedLaws
pub mod ShapeTextLaws
