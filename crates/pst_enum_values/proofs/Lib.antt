mod Ascending
mod Rows
