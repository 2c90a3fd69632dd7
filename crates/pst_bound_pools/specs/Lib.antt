pub mod Pools
pub mod Serving
pub mod Children
pub mod Tables
pub mod ListedPools
pub mod BindRows
pub mod KeptBinds
pub mod Homes
