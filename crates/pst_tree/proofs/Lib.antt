pub mod One
pub mod Found
pub mod LaidOut
pub mod Preorder
pub mod Declared
pub mod Existing
mod InstancesTried
mod Walking
mod LastOnes
mod Rowed
mod Typed
pub mod InheritedDeclared
pub mod InheritedFound
pub mod Needing
pub mod ContentFound
