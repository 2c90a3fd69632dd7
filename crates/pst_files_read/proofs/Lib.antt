mod Opened
mod Sources
mod Traces
