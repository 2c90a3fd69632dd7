mod OneCheck
mod Answering
