use Rattle.std.proofs.Common.{◌≡◌, drop}
use Rattle.std.specs.Option.{option_or}
use Rattle.std.specs.HashMap.{get}
use Rattle.pst_ties.specs.declared.tied.End.{End}
use Rattle.pst_ties.specs.Tieds.{same_end, input_from}
use Rattle.pst_ties.proofs.fixed.all_inputs.Given as goal

abbrev pub invariant-loop-tied : goal.invariant-loop-tied
invariant-loop-tied l = (q : End) → option_or (get same_end l.ends q) (input_from (drop l.tied-index l.found) q) ≡ input_from l.found q
