use Rattle.std.proofs.Common.{◌≡◌, ◌+◌, ◌++◌, ◌∷◌, suc, drop, drop-cons, add-one, refl, sym, ap, ◌∙◌, append_assoc}
use Rattle.pst_pool_sources.specs.Offers.{ends_at, fitting_in, fitting_from}
use Rattle.pst_pool_sources.proofs.Lists.{fitting_is}
use Rattle.pst_pool_sources.proofs.sources.PoolSources.new.Goals as goal

pub loop-act-init : goal.loop-act-init
loop-act-init c =
    let acts = c.args.acts.now in
    (refl, λ need p. ap (λ l. l ++ fitting_from need p 0 acts) (c.in_ok-sources.ensures.ends need p) ∙ sym (fitting_is need p acts), c.in_ok-sources.ensures.begun)

pub loop-act-preserved : goal.loop-act-preserved
loop-act-preserved c =
    let xs = c.args.acts.now in
    let i = c.loop-act.act-index in
    let x = c.act-item.result in (
      ap (λ n. n + 1) c.loop-act.invariant.0,
      λ need p.
          let old = ends_at need p c.loop-act.sources in
          let here = fitting_in need p i 0 x.references in
          let later = fitting_from need p (i + 1) (drop (i + 1) xs) in
          let step : fitting_from need p i (drop i xs) ≡ here ++ later =
          ap (fitting_from need p i) (drop-cons xs i x c.loop-act-test.true ∙ ap (λ y. y ∷ drop (suc i) xs) (sym c.act-item.is)) ∙ ap (λ n. here ++ fitting_from need p (i + 1) (drop n xs)) (sym (add-one i)) in
          ap (λ o. o ++ later) (c.in_ok-add_act.ensures.ok need p ∙ ap (λ n. old ++ fitting_in need p n 0 c.as_slice.result.now) c.loop-act.invariant.0 ∙ ap (λ r. old ++ fitting_in need p i 0 r) c.as_slice.ensures)
          ∙ append_assoc old here later
          ∙ ap (λ l. old ++ l) (sym step)
          ∙ c.loop-act.invariant.1 need p,
      λ p. c.add_act.ensures.begun p ∙ c.loop-act.invariant.2 p,
    )
