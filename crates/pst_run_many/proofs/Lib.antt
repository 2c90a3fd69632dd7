mod Ends
mod Lanes
mod Finishing
mod Settling
mod Seating
mod Endings
