-- Replies to a sweep over seeds.
use Rattle.std.specs.Prelude.{◌≡◌, ℕ, List, string_bytes}
use Rattle.pst_model.specs.ModelTree.{ModelTree}
use Rattle.pst_sweep_table.specs.declared.row.SweepRow.{SweepRow}
use Rattle.pst_sweep_table.specs.Rows.{IsTable}
use Rattle.pst_sweep_answers.specs.Shown.{ShowsSweep}
use Rattle.pst_outcome.specs.declared.answer.Answer.TheVariants.{Swept}
use Rattle.pst_outcome.specs.declared.reply.Reply.{Reply}

-- the reply that shows these rows
pub record TellsRows (names : List (List ℕ)) (m : ModelTree) (rows : List SweepRow) (reply : Reply) : Type 0 where
  pub found : ℕ
  pub shows : ShowsSweep names m rows found (string_bytes reply.text)
  pub answer_is : reply.answer ≡ Swept found

-- the reply to a sweep over so many seeds from the first on
abbrev pub SaysSweep : List (List ℕ) → ModelTree → ℕ → ℕ → ℕ → ℕ → ℕ → Reply → Type 0
SaysSweep names m root infer budget first count reply = (rows : List SweepRow) × IsTable m root infer budget first count rows × TellsRows names m rows reply
