mod Inside
mod Taken
