use Rattle.std.proofs.Common.{◌≡◌, ◌<◌, length, Some, None, refl, sym, ap, subst, ◌∙◌, arith}
use Rattle.std.specs.Prelude.{slice_get}
use Rattle.std.proofs.lemmas.Option.{slice_get_read}
use Rattle.std.specs.List.{list_any}
use Rattle.pst_ties.specs.Tieds.{same_end}
use Rattle.pst_pool_sources.specs.Offers.{ends_in, takes, without, put_back}
use Rattle.pst_pool_sources.specs.Places.{AreRising}
use Rattle.pst_pool_sources.proofs.Rows.{changed_at, changed_back, room_kept, begun_kept, past_at, none_past}
use Rattle.pst_pool_sources.proofs.sources.PoolSources.take.Goals as goal

pub returns-then-pool-len-clause-without : goal.returns-then-pool-len-clause-without
returns-then-pool-len-clause-without c = λ need p.
    past_at need c.args.self.now.pools.items c.args.pool (without c.args.end) (takes need c.args.flow) (omega arith) refl p

pub returns-then-pool-len-clause-back : goal.returns-then-pool-len-clause-back
returns-then-pool-len-clause-back c = λ need p.
    past_at need c.args.self.now.pools.items c.args.pool (put_back None c.args.end) (takes need c.args.flow) (omega arith) refl p

pub returns-then-pool-len-clause-found : goal.returns-then-pool-len-clause-found
returns-then-pool-len-clause-found c = λ need t.
    sym (ap (list_any (same_end c.args.end)) (none_past need c.args.self.now.pools.items c.args.pool (omega arith)))

pub take-requires : goal.take-requires
take-requires c = λ need.
    let rows = c.args.self.now.pools.items in
    let n = c.args.pool in
    let x = c.index_mut.result.now in
    let h : n < length rows = omega arith in
    let e : slice_get rows n ≡ Some x = slice_get_read rows (length rows) n x refl h c.index_mut.ensures.value in
    subst (λ o. AreRising (ends_in need o)) e (c.requires need n)

pub returns-clause-without : goal.returns-clause-without
returns-clause-without c =
    let rows = c.args.self.now.pools.items in
    let n = c.args.pool in
    let x = c.index_mut.result.now in
    let h : n < length rows = omega arith in
    let e : slice_get rows n ≡ Some x = slice_get_read rows (length rows) n x refl h c.index_mut.ensures.value in
    changed_at rows n x c.take.new.self h e (without c.args.end) (λ need. takes need c.args.flow) c.take.ensures.without

pub returns-clause-back : goal.returns-clause-back
returns-clause-back c =
    let rows = c.args.self.now.pools.items in
    let n = c.args.pool in
    let x = c.index_mut.result.now in
    let h : n < length rows = omega arith in
    let e : slice_get rows n ≡ Some x = slice_get_read rows (length rows) n x refl h c.index_mut.ensures.value in
    changed_back rows n x c.take.new.self h e (put_back c.take.result c.args.end) (λ need. takes need c.args.flow) c.take.ensures.back

pub returns-clause-found : goal.returns-clause-found
returns-clause-found c = λ need t.
    let rows = c.args.self.now.pools.items in
    let n = c.args.pool in
    let x = c.index_mut.result.now in
    let h : n < length rows = omega arith in
    let e : slice_get rows n ≡ Some x = slice_get_read rows (length rows) n x refl h c.index_mut.ensures.value in
    c.take.ensures.found need t ∙ ap (λ o. list_any (same_end c.args.end) (ends_in need o)) (sym e)

pub returns-clause-room : goal.returns-clause-room
returns-clause-room c =
    let rows = c.args.self.now.pools.items in
    let n = c.args.pool in
    let x = c.index_mut.result.now in
    let h : n < length rows = omega arith in
    let e : slice_get rows n ≡ Some x = slice_get_read rows (length rows) n x refl h c.index_mut.ensures.value in
    room_kept rows n x c.take.new.self h e (λ need. let r = c.take.ensures.room need in omega arith)

pub returns-clause-begun : goal.returns-clause-begun
returns-clause-begun c =
    let rows = c.args.self.now.pools.items in
    let n = c.args.pool in
    let x = c.index_mut.result.now in
    let h : n < length rows = omega arith in
    let e : slice_get rows n ≡ Some x = slice_get_read rows (length rows) n x refl h c.index_mut.ensures.value in
    begun_kept rows n x c.take.new.self h e c.take.ensures.begun
