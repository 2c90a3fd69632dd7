mod Counted
mod Used
mod One
