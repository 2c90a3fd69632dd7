use Rattle.std.proofs.Common.{◌≡◌, drop}
use Rattle.std.specs.List.{list_any}
use Rattle.pst_legal.specs.Blanks.{refers_to}
use Rattle.pst_refusals.proofs.acts.is_used.Given as goal

abbrev pub invariant-loop-act : goal.invariant-loop-act
invariant-loop-act l = list_any (refers_to l.pool) (drop l.act-index l.actions) ≡ list_any (refers_to l.pool) l.actions
