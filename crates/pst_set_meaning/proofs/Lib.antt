mod Items
mod Sets
mod Ranges
mod Tried
mod Orders
