mod Firsts
mod Bodies
