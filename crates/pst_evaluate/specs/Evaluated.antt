-- What evaluating comes to, as a value or none.
use Rattle.std.specs.Prelude.{ℤ, Option, Some, None}
use Rattle.pst_evaluate.specs.declared.evaluated.Evaluated.{Evaluated}
use Rattle.pst_evaluate.specs.declared.evaluated.Evaluated.TheVariants.{Value}

abbrev pub value_in : Evaluated → Option ℤ
value_in (Value v) = Some v
value_in _ = None
