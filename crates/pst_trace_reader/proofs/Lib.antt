mod Printed
mod Chosen
mod Heads
mod Onward
mod Cut
mod Rests
mod Tops
mod OneReading
