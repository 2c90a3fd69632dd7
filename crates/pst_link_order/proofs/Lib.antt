mod Why
mod Ahead
mod Built
