mod Cutting
mod Lasts
mod Pairing
mod Ends
