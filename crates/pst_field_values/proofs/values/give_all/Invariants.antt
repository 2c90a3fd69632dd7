use Rattle.std.proofs.Common.{◌≡◌, drop}
use Rattle.pst_field_values.specs.Kept.{with_values}
use Rattle.pst_field_values.proofs.values.give_all.Given as goal

abbrev pub invariant-loop-value : goal.invariant-loop-value
invariant-loop-value l = with_values l.given (drop l.value-index l.values) ≡ with_values l.fn.valued l.values
