-- What a line prints that runs a scenario, another line takes that checks it.
use Rattle.std.specs.Prelude.{◌≡◌, ◌⊎◌, ℕ, ◌<◌, List, Some}
use Rattle.pst_base.specs.Fault.{last_count}
use Rattle.pst_io.specs.Shelf.{Files}
use Rattle.pst_words.specs.declared.command.Command.TheVariants.{Run, Check}
use Rattle.pst_words.specs.declared.command.Lines.{Lines}
use Rattle.pst_words.specs.declared.key.Key.TheVariants.{Root, Seed, Infer}
use Rattle.pst_words.specs.Lines.{IsLine, given}
use Rattle.pst_files_read.specs.Files.{AreRead, IsTraceRead, sources_in}
use Rattle.pst_run_alone.specs.Lanes.{Lane}
use Rattle.pst_outcome.specs.declared.answer.Answer.{Answer}
use Rattle.pst_outcome.specs.Outcome.{IsOwed}
use Rattle.pst_outcome.specs.Laws.{IsSpentBudget}
use Rattle.pst_printed_answers.specs.Taken.{Takes}

-- The words behind two commands name one root, one seed and one number of inferred actions, or leave them out, and their sources have the same
-- texts. Their budgets may differ, and so may the names of the files.
pub record AskForOne (files shelf : Files) (arguments others : List (List ℕ)) : Type 0 where
  pub root : given Root others ≡ given Root arguments
  pub seed : given Seed others ≡ given Seed arguments
  pub infer : given Infer others ≡ given Infer arguments
  pub texts : List (List ℕ)
  pub read : AreRead (Some files) (sources_in arguments) texts
  pub read_too : AreRead (Some shelf) (sources_in others) texts

-- Where the text that is right for a line `run` is the trace file of such a line `check`, and no call of the shelf failed there, that check
-- takes it, or says that its budget is spent.
abbrev pub LinesAreTaken : Type 0
LinesAreTaken =
    (lines : Lines) (have room : ℕ) (words more arguments others : List (List ℕ)) (files shelf : Files) (old new faults : ℕ) (lanes told : List Lane) (answer said : Answer) (text line : List ℕ)
    → IsLine lines have words Run arguments → IsLine lines room more Check others → AskForOne files shelf arguments others → IsTraceRead (Some shelf) others (Some text) → faults < last_count
    → IsOwed lines have words (Some files) old new lanes answer text → IsOwed lines room more (Some shelf) faults faults told said line
    → IsSpentBudget said ⊎ Takes answer said
