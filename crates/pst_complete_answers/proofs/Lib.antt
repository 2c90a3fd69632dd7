mod Whole
mod Good
mod Served
mod Complete
mod Rows
