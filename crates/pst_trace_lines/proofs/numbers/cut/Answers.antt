use Rattle.std.proofs.Common.{List, subst}
use Rattle.std.specs.Prelude.{ℕ, Contains}
use Rattle.std.proofs.lemmas.List.{take_all}
use Rattle.pst_trace_lines.proofs.Cutting.{none_at_all}
use Rattle.pst_trace_lines.proofs.numbers.cut.Goals as goal

pub returns : goal.returns
returns c = λ a b is.
    none_at_all c.args.text.now c.args.mark a b (subst (λ (t : List ℕ). Contains t c.args.mark → ⊥) (take_all c.loop-i.i c.args.text.now c.loop-i-test.false) c.loop-i.invariant) is
