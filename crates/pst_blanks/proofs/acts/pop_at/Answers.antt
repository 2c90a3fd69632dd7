use Rattle.std.proofs.Common.{ap, sym, arith}
use Rattle.pst_blanks.specs.Filling.{filled_without_value}
use Rattle.pst_blanks.proofs.Alters.{alter_past, set_like}
use Rattle.pst_blanks.proofs.acts.pop_at.Goals as goal

pub returns-then-reference-len : goal.returns-then-reference-len
returns-then-reference-len c = sym (alter_past filled_without_value c.args.reference c.args.references.now.items (omega arith))

pub returns : goal.returns
returns c =
    let x = c.index_mut.result.now in
    set_like filled_without_value c.args.reference c.args.references.now.items x _ (omega arith) c.index_mut.ensures.value (ap (λ vs. record x { values = vs }) c.pop_value.ensures)
