use Rattle.std.proofs.Common.{ap, sym, arith}
use Rattle.pst_blanks.specs.Filling.{first_less}
use Rattle.pst_blanks.proofs.Alters.{alter_past, set_like}
use Rattle.pst_blanks.proofs.filling.take_first.Goals as goal

pub returns-then-first-len : goal.returns-then-first-len
returns-then-first-len c = sym (alter_past first_less c.args.first c.args.firsts.now.items (omega arith))

pub returns : goal.returns
returns c =
    let x = c.index_mut.result.now in
    set_like first_less c.args.first c.args.firsts.now.items x _ (omega arith) c.index_mut.ensures.value (ap (λ vs. record x { values = vs }) c.pop_value.ensures)
