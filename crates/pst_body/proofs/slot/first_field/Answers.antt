use Rattle.std.proofs.Common.{ℤ, List, slice_get, ap, ◌∙◌}
use Rattle.pst_body.proofs.Values.{first_read}
use Rattle.pst_body.proofs.slot.first_field.Goals as goal

pub returns-then-first-pool : goal.returns-then-first-pool
returns-then-first-pool c =
    c.value_at.ensures ∙ ap (λ (l : List ℤ). slice_get l c.args.field) (c.as_slice.ensures ∙ first_read c.args.firsts.now c.args.pool c.loop-first.first-index c.first-item.result c.loop-first-test.true c.first-item.is c.if-first-pool.true c.loop-first.invariant)
