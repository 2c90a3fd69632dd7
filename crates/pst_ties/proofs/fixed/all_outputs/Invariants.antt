use Rattle.std.proofs.Common.{◌≡◌, drop}
use Rattle.std.specs.Option.{option_or}
use Rattle.std.specs.HashMap.{get}
use Rattle.pst_ties.specs.declared.tied.End.{End}
use Rattle.pst_ties.specs.Tieds.{same_end, output_to}
use Rattle.pst_ties.proofs.fixed.all_outputs.Given as goal

abbrev pub invariant-loop-tied : goal.invariant-loop-tied
invariant-loop-tied l = (q : End) → option_or (get same_end l.ends q) (output_to (drop l.tied-index l.found) q) ≡ output_to l.found q
