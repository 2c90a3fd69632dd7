pub mod LaidOut
pub mod Ahead
pub mod Laws
