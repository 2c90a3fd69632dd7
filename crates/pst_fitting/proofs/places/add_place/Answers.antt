use Rattle.std.proofs.Common.{subst, arith}
use Rattle.std.specs.Prelude.{Contains}
use Rattle.pst_fitting.proofs.PlaceLemmas.{not_below, there_already, pushed}
use Rattle.pst_fitting.proofs.places.add_place.Goals as goal

pub returns-then-place-below : goal.returns-then-place-below
returns-then-place-below c = not_below c.args.place c.args.below c.args.reasons.now.items (omega arith)

pub returns-then-is_named : goal.returns-then-is_named
returns-then-is_named c = there_already c.args.place c.args.below c.args.reasons.now.items (subst (λ xs. Contains xs c.args.place) c.as_slice.ensures.value (c.is_named.ensures c.if-is_named.true))

pub returns : goal.returns
returns c = pushed c.args.place c.args.below c.args.reasons.now.items _ (omega arith) c.in_ok-push.ensures.items
