use Rattle.std.proofs.Common.{◌≡◌, ◌<◌, length, Some, refl, subst, arith}
use Rattle.std.specs.Prelude.{slice_get}
use Rattle.std.proofs.lemmas.Option.{slice_get_read}
use Rattle.std.specs.List.{insert}
use Rattle.pst_pool_sources.specs.Offers.{ends_in, room_in, takes}
use Rattle.pst_pool_sources.proofs.Rows.{changed_at, room_kept, begun_kept}
use Rattle.pst_pool_sources.proofs.sources.PoolSources.put.Goals as goal

pub put-requires : goal.put-requires
put-requires c = λ need t.
    let rows = c.args.self.now.pools.items in
    let n = c.args.pool in
    let x = c.index_mut.result.now in
    let h : n < length rows = omega arith in
    let e : slice_get rows n ≡ Some x = slice_get_read rows (length rows) n x refl h c.index_mut.ensures.value in
    subst (λ o. length (ends_in need o) < room_in need o) e (c.requires need t)

pub returns-clause-ends : goal.returns-clause-ends
returns-clause-ends c =
    let rows = c.args.self.now.pools.items in
    let n = c.args.pool in
    let x = c.index_mut.result.now in
    let h : n < length rows = omega arith in
    let e : slice_get rows n ≡ Some x = slice_get_read rows (length rows) n x refl h c.index_mut.ensures.value in
    changed_at rows n x c.put.new.self h e (λ ends. insert ends c.args.place c.args.end) (λ need. takes need c.args.flow) c.put.ensures.ends

pub returns-clause-room : goal.returns-clause-room
returns-clause-room c =
    let rows = c.args.self.now.pools.items in
    let n = c.args.pool in
    let x = c.index_mut.result.now in
    let h : n < length rows = omega arith in
    let e : slice_get rows n ≡ Some x = slice_get_read rows (length rows) n x refl h c.index_mut.ensures.value in
    room_kept rows n x c.put.new.self h e c.put.ensures.room

pub returns-clause-begun : goal.returns-clause-begun
returns-clause-begun c =
    let rows = c.args.self.now.pools.items in
    let n = c.args.pool in
    let x = c.index_mut.result.now in
    let h : n < length rows = omega arith in
    let e : slice_get rows n ≡ Some x = slice_get_read rows (length rows) n x refl h c.index_mut.ensures.value in
    begun_kept rows n x c.put.new.self h e c.put.ensures.begun
