mod Words
mod Rows
