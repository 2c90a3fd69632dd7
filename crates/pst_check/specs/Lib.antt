pub mod Marks
pub mod Tests
pub mod Verdicts
pub mod Laws
