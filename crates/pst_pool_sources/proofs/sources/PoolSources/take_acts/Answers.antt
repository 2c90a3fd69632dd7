use Rattle.std.proofs.Common.{◌≡◌, ◌+◌, ◌∷◌, suc, drop, drop-cons, add-one, sym, ap, ◌∙◌, arith}
use Rattle.pst_pool_sources.specs.Offers.{ends_at, but_last, count_in, count_from}
use Rattle.pst_pool_sources.proofs.Lists.{but_more}
use Rattle.pst_pool_sources.proofs.sources.PoolSources.take_acts.Goals as goal

pub loop-act-preserved : goal.loop-act-preserved
loop-act-preserved c = (
  λ need p.
      let xs = c.args.acts.now in
      let i = c.loop-act.act-index in
      let x = c.act-item.result in
      let one = count_in need p x.references in
      let later = count_from need p (drop (i + 1) xs) in
      let ends = ends_at need p c.loop-act.self in
      let step : count_from need p (drop i xs) ≡ one + later =
      ap (count_from need p) (drop-cons xs i x c.loop-act-test.true ∙ ap (λ y. y ∷ drop (suc i) xs) (sym c.act-item.is)) ∙ ap (λ n. one + count_from need p (drop n xs)) (sym (add-one i)) in
      ap (but_last later) (c.take_references.ensures.ends need p ∙ ap (λ r. but_last (count_in need p r) ends) c.as_slice.ensures)
      ∙ but_more later one ends
      ∙ ap (λ n. but_last n ends) (sym step)
      ∙ c.loop-act.invariant.0 need p,
  λ need p. omega (arith, c.loop-act.invariant.1 need p, c.take_references.ensures.room need p),
  λ p. c.take_references.ensures.begun p ∙ c.loop-act.invariant.2 p,
)
