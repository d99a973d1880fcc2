pub mod Bytes
pub mod BytesLaws
pub mod Counts
pub mod Faults
pub mod Streams
