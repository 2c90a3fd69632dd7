-- What crates above use of libraries below this one, passed on, so that they need not list those libraries.
pub use Rattle.pst_model_answers.proofs.Runs.{all_made, none_made, one_uncalled}
