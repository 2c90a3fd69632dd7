pub mod Sited
