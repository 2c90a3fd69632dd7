pub use Rattle.atomic_table.specs.Seated
pub mod Gathered
pub mod Plays
pub mod Rule
pub mod Seats
pub mod Steps
pub mod Views
