use Rattle.std.proofs.Common.{◌<◌, ℕ}
use Rattle.pst_scen.specs.Refusals.{GroupClashes}
use Rattle.pst_graph.proofs.refusals.find_group_clash.Given as goal

abbrev pub invariant-loop-a : goal.invariant-loop-a
invariant-loop-a l = (c d : ℕ) → c < l.a → GroupClashes l.scenario c d → ⊥
