pub mod Answered
pub mod Closing
pub mod GivenBack
pub mod HandedOut
pub mod Telling
