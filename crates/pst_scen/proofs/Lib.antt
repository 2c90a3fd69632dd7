mod Blocks
mod Counts
mod Nodes
