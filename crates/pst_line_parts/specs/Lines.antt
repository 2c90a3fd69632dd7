-- The words behind a command, and what the sources that they name come to.
use Rattle.std.specs.Prelude.{◌≡◌, ◌<◌, ◌^◌, ℕ, List}
use Rattle.pst_words.specs.declared.command.Command.{Command}
use Rattle.pst_words.specs.declared.key.Key.TheVariants.{Size}
use Rattle.pst_words.specs.Lines.{IsWhole}
use Rattle.pst_generated.specs.Generated.{generated_text}
use Rattle.pst_outcome.specs.Tasks.{IsNumberGiven, IsRoot, AreSources}
use Rattle.pst_outcome.specs.Sources.{Front, OfTexts}

-- the words behind the command of a line, where some number of lanes is there
abbrev pub AreBehind : Command → List (List ℕ) → Type 0
AreBehind command arguments = (have : ℕ) × IsWhole command have arguments

-- the source of the generated model that the words ask for
abbrev pub IsGenerated : List (List ℕ) → List ℕ → Type 0
IsGenerated arguments text = (size : ℕ) × IsNumberGiven Size arguments 0 size × (text ≡ generated_text size)

-- The sources of a line, whose files have these texts, come to that.
pub record ComesTo (command : Command) (arguments texts : List (List ℕ)) (front : Front) : Type 0 where
  pub sources : List (List ℕ)
  pub are_sources : AreSources command arguments texts sources
  pub component : List ℕ
  pub action : List ℕ
  pub is_root : IsRoot command arguments component action
  pub comes_to : OfTexts arguments component action sources front
