mod Serial
mod Opening
mod Runs
mod Going
mod Blocks
