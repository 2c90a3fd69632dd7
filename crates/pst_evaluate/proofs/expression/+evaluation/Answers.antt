use Rattle.std.proofs.Common.{arith, ◌≡◌, Option, IfOk, sym, subst}
use Rattle.std.specs.Prelude.{ℤ}
use Rattle.std.proofs.lemmas.Grind.{common_steps}
use Rattle.pst_evaluate.specs.Evaluated.{value_in}
use Rattle.pst_evaluate.specs.Known.{path_known}
use Rattle.pst_evaluate.proofs.Rows.{in_ranges_are}
use Rattle.pst_evaluate.proofs.expression.+evaluation.Goals as goal

pub is_in_ranges-returns : goal.is_in_ranges-returns
is_in_ranges-returns t c =
    subst (λ (v : Option ℤ). IfOk c.is_in_rest.result (λ r. value_in r ≡ v))
    (sym (in_ranges_are (path_known c.args.known.now c.args.at.now) (value_in c.args.value) c.args.ranges.now))
    (grind (arith, common_steps))
