pub mod Values
pub mod Made
pub mod Laws
