use Rattle.std.proofs.Common.{◌≡◌, ◌<◌, length, Some, refl, arith}
use Rattle.std.specs.Prelude.{slice_get}
use Rattle.std.proofs.lemmas.Option.{slice_get_read}
use Rattle.pst_legal.specs.Supplied.{is_source_for}
use Rattle.pst_pool_sources.proofs.Rows.{taken_at, room_kept, begun_kept}
use Rattle.pst_pool_sources.proofs.sources.PoolSources.take_end.Goals as goal

pub returns-clause-ends : goal.returns-clause-ends
returns-clause-ends c =
    let rows = c.args.self.now.pools.items in
    let n = c.args.pool in
    let x = c.index_mut.result.now in
    let h : n < length rows = omega arith in
    let e : slice_get rows n ≡ Some x = slice_get_read rows (length rows) n x refl h c.index_mut.ensures.value in
    taken_at rows n x c.take_last.new.self h e (λ need. is_source_for need c.args.flow) c.take_last.ensures.ends

pub returns-clause-room : goal.returns-clause-room
returns-clause-room c =
    let rows = c.args.self.now.pools.items in
    let n = c.args.pool in
    let x = c.index_mut.result.now in
    let h : n < length rows = omega arith in
    let e : slice_get rows n ≡ Some x = slice_get_read rows (length rows) n x refl h c.index_mut.ensures.value in
    room_kept rows n x c.take_last.new.self h e (λ need. let r = c.take_last.ensures.room need in omega arith)

pub returns-clause-begun : goal.returns-clause-begun
returns-clause-begun c =
    let rows = c.args.self.now.pools.items in
    let n = c.args.pool in
    let x = c.index_mut.result.now in
    let h : n < length rows = omega arith in
    let e : slice_get rows n ≡ Some x = slice_get_read rows (length rows) n x refl h c.index_mut.ensures.value in
    begun_kept rows n x c.take_last.new.self h e c.take_last.ensures.begun
