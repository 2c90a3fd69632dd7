use Rattle.std.proofs.Common.{◌∙◌, ℕ, List, Bool, length, get_or, ap, sym, subst, false, arith}
use Rattle.std.proofs.lemmas.List.{get_or-replicate, length-replicate}
use Rattle.pst_book.specs.Tables.{AreAllAwaited}
use Rattle.pst_tallies.specs.Tallies.{counts_in, IsTally}
use Rattle.pst_static.proofs.Taken.{owed_first, hinted_first}
use Rattle.pst_static.proofs.order.serial_order.Goals as goal

pub take_all-requires-clause-tally : goal.take_all-requires-clause-tally
take_all-requires-clause-tally c = subst (λ (v : List ℕ). IsTally (length c.args.plan.now.groups) v) (sym c.deref_mut.ensures.value) c.in_ok-awaited.ensures.many

pub take_all-requires-clause-owed : goal.take_all-requires-clause-owed
take_all-requires-clause-owed c =
    let n = c.len-count.ensures.is in
    owed_first c.args.plan.now (counts_in (length c.args.plan.now.groups) c.deref_mut.result.now) c.deref_mut-2.result.now
    (subst (λ (v : List ℕ). AreAllAwaited c.args.plan.now (counts_in (length c.args.plan.now.groups) v)) (sym c.deref_mut.ensures.value) c.in_ok-awaited.ensures.counted)
    (ap (λ (v : List Bool). length v) (c.deref_mut-2.ensures.value ∙ c.in_ok-taken.ensures) ∙ length-replicate c.len-count.result false ∙ n)
    (λ a l. ap (λ (v : List Bool). get_or v a false) (c.deref_mut-2.ensures.value ∙ c.in_ok-taken.ensures) ∙ get_or-replicate c.len-count.result a false false (omega (arith, l, n)))

pub take_all-requires-clause-hinted : goal.take_all-requires-clause-hinted
take_all-requires-clause-hinted c =
    hinted_first c.args.plan.now (counts_in (length c.args.plan.now.groups) c.deref_mut.result.now) c.deref_mut-2.result.now c.deref_mut-3.result.now c.len-count.result c.len-count.ensures.is (c.deref_mut-3.ensures.value ∙ c.in_ok-hints.ensures)

pub take_all-requires-clause-none : goal.take_all-requires-clause-none
take_all-requires-clause-none c =
    let n = c.len-count.ensures.is in
    λ a l. ap (λ (v : List Bool). get_or v a false) (c.deref_mut-2.ensures.value ∙ c.in_ok-taken.ensures) ∙ get_or-replicate c.len-count.result a false false (omega (arith, l, n))
