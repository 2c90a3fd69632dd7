pub mod Calls
mod Turns
mod OneRun
pub mod OneAnswer
pub mod Shows
