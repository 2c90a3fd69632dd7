mod Printed
mod Named
mod Heads
mod Events
mod Whole
