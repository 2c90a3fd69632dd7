mod Elements
mod Judging
mod Walked
mod Rootless
mod Breaking
mod Resolving
