pub mod Order
mod Steps
