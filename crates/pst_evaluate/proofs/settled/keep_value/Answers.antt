use Rattle.std.proofs.Common.{◌≡◌, List, Option, set, sym, subst, w64, to_z, of_z}
use Rattle.std.specs.Prelude.{ℤ, Some}
use Rattle.std.proofs.lemmas.Int.{to_z-of_z}
use Rattle.pst_evaluate.specs.Settled.{AreDerived}
use Rattle.pst_evaluate.proofs.Settling.{keeps}
use Rattle.pst_evaluate.proofs.settled.keep_value.Goals as goal

pub returns : goal.returns
returns c =
    subst (λ (w : ℤ). AreDerived c.args.sources.now (set c.args.values.now c.args.at (Some w))) (sym (to_z-of_z w64 c.args.value c.ranges.value))
    (keeps c.args.sources.now c.requires.listed c.args.values.now c.requires.derived c.args.at c.args.value c.requires.within c.requires.value)
