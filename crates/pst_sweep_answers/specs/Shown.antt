-- What is shown of a sweep: of rows one count and one text.
use Rattle.std.specs.Prelude.{◌≡◌, ℕ, List}
use Rattle.pst_model.specs.ModelTree.{ModelTree}
use Rattle.pst_sweep_table.specs.declared.row.SweepRow.{SweepRow}
use Rattle.pst_sweep_answers.specs.Texts.{found_in, sweep_text}

-- the number of rows that have a scenario, and the text of all
pub record ShowsSweep (names : List (List ℕ)) (m : ModelTree) (rows : List SweepRow) (found : ℕ) (text : List ℕ) : Type 0 where
  pub found_is : found ≡ found_in rows
  pub text_is : text ≡ sweep_text names m rows (found_in rows)
