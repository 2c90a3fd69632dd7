pub mod Exact
pub mod Keeps
pub mod Residues
pub mod Compared
pub mod Powers
pub mod Operands
