mod Above
mod Giving
mod GivingDefaults
mod Aimed
