mod Among
mod Added
mod Lists
mod Conflicts
mod Stack
mod Turns
mod Searching
mod Past
