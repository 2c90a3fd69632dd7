pub mod Explained
pub mod Firsts
pub mod Marks
pub mod Reasons
pub mod Settled
pub mod Giving
pub mod Laws
