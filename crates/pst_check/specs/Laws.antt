-- Laws of judging.
use Rattle.std.specs.Prelude.{◌≡◌, ◌↔◌, ℕ, List, ◌∷◌}
use Rattle.pst_scen.specs.declared.scenario.Scenario.{Scenario}
use Rattle.pst_scen.specs.declared.event.Event.{Event}
use Rattle.pst_scen.specs.Trace.{Block, events}
use Rattle.pst_scen.specs.Judging.{Breaks, IsBlock}
use Rattle.pst_scen.specs.Plan.{Entries}
use Rattle.pst_scen.specs.Plans.{IsPlanOf}
use Rattle.pst_order.specs.Facts.{LinksStates}
use Rattle.pst_by_rule.specs.Blocks.{AreBlocks}
use Rattle.pst_check.specs.declared.verdict.Verdict.{Verdict}
use Rattle.pst_check.specs.Verdicts.{IsBegun, IsVerdict}

-- Behind blocks that begin a whole legal trace, a block breaks no rule exactly where it begins one with them.
abbrev pub UnbrokenIsBegun : Type 0
UnbrokenIsBegun =
    (s : Scenario) (p : Entries) (older : List Block) (block : Block)
    → LinksStates s → IsPlanOf s p → AreBlocks older → IsBlock block → IsBegun s (events older)
    → ((rule : ℕ) → Breaks s (events older) rule block → ⊥) ↔ IsBegun s (events (block ∷ older))

-- At most one verdict is right of a trace.
abbrev pub VerdictsAreOne : Type 0
VerdictsAreOne = (s : Scenario) (trace : List Event) (one other : Verdict) → IsVerdict s trace one → IsVerdict s trace other → one ≡ other
