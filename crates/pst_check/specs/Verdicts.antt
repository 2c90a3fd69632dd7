-- What a verdict on a trace says.
use Rattle.std.specs.Prelude.{◌≡◌, ◌<◌, ℕ, List, ◌∷◌, ◌++◌, length}
use Rattle.pst_scen.specs.declared.scenario.Scenario.{Scenario}
use Rattle.pst_scen.specs.declared.event.Event.{Event}
use Rattle.pst_scen.specs.Trace.{Block, Ended, events, IsLegalTrace, IsWhole, Prefix}
use Rattle.pst_scen.specs.Judging.{Breaks, BreaksLeast}
use Rattle.pst_by_rule.specs.Blocks.{onward, AreBlocks}
use Rattle.pst_check.specs.declared.verdict.Verdict.{Verdict}
use Rattle.pst_check.specs.declared.verdict.Verdict.TheVariants as verdict

-- the block breaks no rule of a lower number
abbrev pub IsFreeBelow : Scenario → List Event → Block → ℕ → Type 0
IsFreeBelow s trace block number = (rule : ℕ) → rule < number → Breaks s trace rule block → ⊥

-- the block breaks no rule
abbrev pub IsUnbroken : Scenario → List Event → Block → Type 0
IsUnbroken s trace block = (rule : ℕ) → Breaks s trace rule block → ⊥

-- the trace begins a whole legal one, on some number of lanes
pub record IsBegun (s : Scenario) (trace : List Event) : Type 0 where
  pub lanes : ℕ
  pub prefix : Prefix s lanes trace

-- the trace is legal on some number of lanes
pub record IsLegal (s : Scenario) (trace : List Event) : Type 0 where
  pub lanes : ℕ
  pub legal : IsLegalTrace s lanes trace

-- The block of that number begins with those before it no whole legal trace, though these do, and
-- that is the least rule that it breaks.
pub record IsFirstIllegal (s : Scenario) (trace : List Event) (number rule : ℕ) : Type 0 where
  pub older : List Block
  pub block : Block
  pub later : List Block
  pub are : events (block ∷ older) ++ onward later ≡ trace
  pub blocks : AreBlocks (block ∷ older)
  pub others : AreBlocks later
  pub many : length older ≡ number
  pub begun : IsBegun s (events older)
  pub illegal : IsBegun s (events (block ∷ older)) → ⊥
  pub least : BreaksLeast s (events older) rule block

abbrev pub IsVerdict : Scenario → List Event → Verdict → Type 0
IsVerdict s trace verdict.Whole = IsLegal s trace × IsWhole s trace
IsVerdict s trace verdict.Prefix = IsBegun s trace × (IsWhole s trace → ⊥)
IsVerdict s trace (verdict.Illegal block rule) = IsFirstIllegal s trace block rule

-- a verdict on a trace that begins a whole legal one of so many actions
abbrev pub IsCompleted : ℕ → List Event → Verdict → Type 0
IsCompleted count trace verdict.Whole = (a : ℕ) → a < count → Ended trace a
IsCompleted count trace verdict.Prefix = ((a : ℕ) → a < count → Ended trace a) → ⊥
IsCompleted count trace (verdict.Illegal block rule) = ⊥
