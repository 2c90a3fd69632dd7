mod Names
mod Shared
mod Scenarios
mod Models
