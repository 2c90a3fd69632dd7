use Rattle.std.proofs.Common.{◌≡◌, ◌++◌, drop, map}
use Rattle.pst_expr.specs.Tree.{view}
use Rattle.pst_rival_blanks.specs.Pairs.{differing}
use Rattle.pst_rival_blanks.proofs.constraints.differing.Given as goal

abbrev pub invariant-loop-rival : goal.invariant-loop-rival
invariant-loop-rival l = map view l.constraints.items ++ map differing (drop l.rival-index l.rivals) ≡ map differing l.rivals
