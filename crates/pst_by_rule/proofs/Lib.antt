pub mod Onward
mod Begun
mod Noted
mod Ruled
mod Going
