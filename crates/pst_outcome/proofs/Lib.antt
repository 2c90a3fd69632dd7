pub mod OneReading
pub mod OneLine
mod OneLexing
mod OneParse
pub mod OneTask
pub mod OneFront
pub mod OneStop
mod OneCounts
mod OneRuns
mod OneSweep
mod OneModel
mod OneAnswer
