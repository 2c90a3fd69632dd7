use Rattle.std.proofs.Common.{◌≡◌, ◌+◌, ◌∷◌, suc, drop, drop-cons, add-one, if◌then◌else◌, sym, ap, ◌∙◌, arith}
use Rattle.pst_pool_sources.specs.Offers.{offers, ends_at, but_last, count_in}
use Rattle.pst_pool_sources.proofs.Lists.{but_more}
use Rattle.pst_pool_sources.proofs.sources.PoolSources.take_references.Goals as goal

pub loop-filled-preserved : goal.loop-filled-preserved
loop-filled-preserved c = (
  λ need p.
      let xs = c.args.references.now in
      let i = c.loop-filled.filled-index in
      let x = c.filled-item.result in
      let one = if offers need p x then 1 else 0 in
      let later = count_in need p (drop (i + 1) xs) in
      let ends = ends_at need p c.loop-filled.self in
      let step : count_in need p (drop i xs) ≡ one + later =
      ap (count_in need p) (drop-cons xs i x c.loop-filled-test.true ∙ ap (λ y. y ∷ drop (suc i) xs) (sym c.filled-item.is)) ∙ ap (λ n. one + count_in need p (drop n xs)) (sym (add-one i)) in
      ap (but_last later) (c.take_end.ensures.ends need p)
      ∙ but_more later one ends
      ∙ ap (λ n. but_last n ends) (sym step)
      ∙ c.loop-filled.invariant.0 need p,
  λ need p. omega (arith, c.loop-filled.invariant.1 need p, c.take_end.ensures.room need p),
  λ p. c.take_end.ensures.begun p ∙ c.loop-filled.invariant.2 p,
)
