mod Blocks
mod Leaving
mod OneVerdict
mod Running
mod Answering
