-- What crates above use of libraries below this one, passed on, so that they need not list those libraries.
pub use Rattle.pst_source_rules.specs.Judged.{IsEnd}
