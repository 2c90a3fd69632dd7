mod KeyTests
mod Beside
mod Rounds
mod Stops
