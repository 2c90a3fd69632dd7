mod Tasks
mod Done
mod Said
