pub mod Handled
pub mod Firsts
