-- Which word behind a command is wrong.
use Rattle.std.specs.Prelude.{◌≡◌, ◌⊎◌, ℕ, ◌+◌, ◌<◌, ◌≤◌, List, length, take}
use Rattle.pst_words.specs.declared.command.Command.{Command}
use Rattle.pst_words.specs.Lines.{AreArguments, IsWhole}

-- so many words stand right behind the command, and the next one is wrong, or there is none and something is missing; the command is word 0
pub record IsWrongBehind (command : Command) (have : ℕ) (words : List (List ℕ)) (wrong : ℕ) : Type 0 where
  pub few : ℕ
  pub is : wrong ≡ few + 1
  pub inside : few ≤ length words
  pub right : AreArguments command have (take few words)
  pub here : ((few < length words) × (AreArguments command have (take (few + 1) words) → ⊥)) ⊎ ((few ≡ length words) × (IsWhole command have words → ⊥))
