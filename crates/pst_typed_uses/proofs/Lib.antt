mod BehindPlaces
mod InOrder
mod Walked
mod Least
mod ConstantsListed
