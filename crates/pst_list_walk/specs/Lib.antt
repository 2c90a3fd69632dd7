pub mod Walks
pub mod Free
pub mod Made
