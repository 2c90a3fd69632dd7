use Rattle.std.proofs.Common.{◌≡◌, ◌+◌, ◌++◌, ◌&&◌, ◌∙◌, ap, false, get_or, nat_eq}
use Rattle.std.specs.Option.{unwrap_or}
use Rattle.pst_model.specs.ModelView.{view_model}
use Rattle.pst_model.specs.Served.{pool_in}
use Rattle.pst_model.specs.declared.action.Reference.{Reference}
use Rattle.pst_scen.specs.declared.act.Flow.TheVariants as flow
use Rattle.pst_legal.specs.Types.{reference_flow}
use Rattle.pst_legal.specs.Growing.{open_reference}
use Rattle.pst_legal.specs.Supplied.{is_source_for}
use Rattle.pst_legal.specs.SupplyReading.{fits}
use Rattle.pst_open_ends.specs.Options.{new_in}
use Rattle.pst_open_ends.specs.Beyond.{wanted, kept_at, given_at}
use Rattle.pst_open_ends.proofs.Alters.{get_same}
use Rattle.pst_open_ends.proofs.Rows.{walk_step}
use Rattle.pst_open_ends.proofs.News.{new_if, given_one, next_reference}
use Rattle.pst_open_ends.proofs.beyond.add_each.Goals as goal

pub loop-kind-preserved : goal.loop-kind-preserved
loop-kind-preserved c =
    let m = view_model c.args.model.now in
    let a = c.args.action in
    let n = c.args.instance in
    let xs = c.args.references.now in
    let i = c.loop-kind.kind-index in
    let r = c.loop-kind.reference in
    let d : Reference = record { name = record { 0 = 0 }; object = 0; output = false } in
    let x = get_or xs i d in
    let pool : c.pool_of-pool.result ≡ unwrap_or (pool_in m.served a n i) 0 =
    c.pool_of-pool.ensures ∙ ap (λ l. unwrap_or (pool_in l a n r) 0) c.as_slice.ensures.value ∙ ap (λ k. unwrap_or (pool_in m.served a n k) 0) c.loop-kind.invariant.0 in (
      ap (λ k. k + 1) c.loop-kind.invariant.0,
      λ need p.
          let w = wanted need p in
          let old = kept_at need p c.loop-kind.pools.items in
          let new = kept_at need p c.add_source.new.pools.items in
          let offered : (is_source_for need c.reference_flow.result && nat_eq c.pool_of-pool.result p) ≡ fits w (open_reference m a n (i, x)) =
          ap (λ f. is_source_for need f && nat_eq c.pool_of-pool.result p) c.reference_flow.ensures
          ∙ ap (λ q. is_source_for need (unwrap_or (reference_flow m x) flow.BufferIn) && nat_eq q p) pool in
          walk_step (λ k rs. new_in m w a n k rs) (λ k y. new_if (fits w (open_reference m a n (k, y))) a n k) (next_reference m w a n) xs i x c.loop-kind-test.true (get_same xs i d x c.loop-kind-test.true)
          (given_at need p c.loop-kind.pools.items) (given_at need p c.add_source.new.pools.items) _
          (given_one old new _ _ a n r (c.in_ok-add_source.ensures need p) offered ∙ ap (λ k. given_at need p c.loop-kind.pools.items ++ new_if (fits w (open_reference m a n (i, x))) a n k) c.loop-kind.invariant.0)
          (c.loop-kind.invariant.1 need p),
    )
