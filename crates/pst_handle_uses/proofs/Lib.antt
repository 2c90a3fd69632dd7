mod Firsts
mod Walked
mod Nothing
