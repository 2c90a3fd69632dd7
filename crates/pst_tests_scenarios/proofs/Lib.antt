mod Parents
mod Checks
