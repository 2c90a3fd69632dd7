pub mod Turns
pub mod Rising
pub mod Joined
pub mod OneMore
pub mod Order
pub mod Same
pub mod Adding
