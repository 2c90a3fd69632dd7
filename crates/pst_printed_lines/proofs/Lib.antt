mod Fronts
mod Taken
