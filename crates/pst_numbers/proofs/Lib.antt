mod BehindPlaces
mod Counting
mod InOrder
mod Meant
mod Positions
mod TypesCounted
