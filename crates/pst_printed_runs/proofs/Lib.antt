mod Core
mod Taken
