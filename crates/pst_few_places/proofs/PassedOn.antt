-- What crates above use of libraries below this one, passed on, so that they need not list those libraries.
pub use Rattle.pst_read_domains.proofs.Same.{same_domain}
pub use Rattle.pst_read_domains.proofs.Ahead.{sources_on}
