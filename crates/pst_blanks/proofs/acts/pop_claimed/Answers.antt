use Rattle.std.proofs.Common.{ap, sym, arith}
use Rattle.pst_blanks.specs.Filling.{claimed_without_value}
use Rattle.pst_blanks.proofs.Alters.{alter_past, set_like}
use Rattle.pst_blanks.proofs.acts.pop_claimed.Goals as goal

pub returns-then-claim-len : goal.returns-then-claim-len
returns-then-claim-len c = sym (alter_past claimed_without_value c.args.claim c.args.claims.now.items (omega arith))

pub returns : goal.returns
returns c =
    let x = c.index_mut.result.now in
    set_like claimed_without_value c.args.claim c.args.claims.now.items x _ (omega arith) c.index_mut.ensures.value (ap (λ vs. record x { values = vs }) c.pop_value.ensures)
