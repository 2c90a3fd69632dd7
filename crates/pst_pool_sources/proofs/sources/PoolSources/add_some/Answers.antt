use Rattle.std.proofs.Common.{◌≡◌, ◌+◌, ◌++◌, length, take, add-one, Some, refl, sym, ap, ◌∙◌, arith, append_assoc}
use Rattle.std.specs.Prelude.{slice_get}
use Rattle.std.proofs.lemmas.Option.{slice_get_read}
use Rattle.pst_pool_sources.specs.Offers.{offers, ends_at, end_if, fitting_in}
use Rattle.pst_pool_sources.proofs.Lists.{fitting_more}
use Rattle.pst_pool_sources.proofs.sources.PoolSources.add_some.Goals as goal

pub loop-filled-preserved : goal.loop-filled-preserved
loop-filled-preserved c =
    let xs = c.args.references.now in
    let i = c.loop-filled.filled-index in
    let x = c.filled-item.result in
    let a = c.args.act in
    let is : slice_get xs i ≡ Some x = slice_get_read xs (length xs) i x refl c.loop-filled-test.true c.filled-item.is in
    let z : i ≡ 0 + i = omega arith in (
      ap (λ n. n + 1) c.loop-filled.invariant.0,
      λ need p.
          let old = ends_at need p c.args.self.now in
          let front = fitting_in need p a 0 (take i xs) in
          c.in-Ok.ensures.ok need p
          ∙ ap (λ l. l ++ end_if (offers need p x) (record { act = a; reference = c.loop-filled.count })) (c.loop-filled.invariant.1 need p)
          ∙ append_assoc old front (end_if (offers need p x) (record { act = a; reference = c.loop-filled.count }))
          ∙ ap (λ k. old ++ (front ++ end_if (offers need p x) (record { act = a; reference = k }))) (c.loop-filled.invariant.0 ∙ z)
          ∙ ap (λ l. old ++ l) (sym (fitting_more need p a 0 i xs x is))
          ∙ ap (λ n. old ++ fitting_in need p a 0 (take n xs)) (sym (add-one i)),
      λ need p. omega (arith, c.loop-filled.invariant.2 need p, c.add_end.ensures.room need p),
      λ p. c.add_end.ensures.begun p ∙ c.loop-filled.invariant.3 p,
    )
