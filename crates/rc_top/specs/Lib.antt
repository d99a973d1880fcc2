pub mod Answer
pub mod Asks
pub mod Ends
