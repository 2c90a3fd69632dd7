mod Elements
mod Firsts
mod Bound
mod Steady
mod Named
mod Derived
