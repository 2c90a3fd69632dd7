mod Each
mod Branches
