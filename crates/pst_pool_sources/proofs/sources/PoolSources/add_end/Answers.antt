use Rattle.std.proofs.Common.{◌≡◌, ◌<◌, length, Some, refl, arith}
use Rattle.std.specs.Prelude.{slice_get}
use Rattle.std.proofs.lemmas.Option.{slice_get_read}
use Rattle.std.proofs.lemmas.Result.{on_ok_weaker, on_err_weaker}
use Rattle.pst_legal.specs.Supplied.{is_source_for}
use Rattle.pst_pool_sources.proofs.Rows.{added_at, kept_at, room_kept, begun_kept}
use Rattle.pst_pool_sources.proofs.sources.PoolSources.add_end.Goals as goal

pub returns-clause-ok : goal.returns-clause-ok
returns-clause-ok c =
    let rows = c.args.self.now.pools.items in
    let n = c.args.pool in
    let x = c.index_mut.result.now in
    let h : n < length rows = omega arith in
    let e : slice_get rows n ≡ Some x = slice_get_read rows (length rows) n x refl h c.index_mut.ensures.value in
    on_ok_weaker c.add.result (added_at rows n x c.add.new.self h e c.args.end (λ need. is_source_for need c.args.flow)) c.add.ensures.ok

pub returns-clause-err : goal.returns-clause-err
returns-clause-err c =
    let rows = c.args.self.now.pools.items in
    let n = c.args.pool in
    let x = c.index_mut.result.now in
    let h : n < length rows = omega arith in
    let e : slice_get rows n ≡ Some x = slice_get_read rows (length rows) n x refl h c.index_mut.ensures.value in
    on_err_weaker c.add.result (kept_at rows n x c.add.new.self h e) c.add.ensures.err

pub returns-clause-room : goal.returns-clause-room
returns-clause-room c =
    let rows = c.args.self.now.pools.items in
    let n = c.args.pool in
    let x = c.index_mut.result.now in
    let h : n < length rows = omega arith in
    let e : slice_get rows n ≡ Some x = slice_get_read rows (length rows) n x refl h c.index_mut.ensures.value in
    room_kept rows n x c.add.new.self h e c.add.ensures.room

pub returns-clause-begun : goal.returns-clause-begun
returns-clause-begun c =
    let rows = c.args.self.now.pools.items in
    let n = c.args.pool in
    let x = c.index_mut.result.now in
    let h : n < length rows = omega arith in
    let e : slice_get rows n ≡ Some x = slice_get_read rows (length rows) n x refl h c.index_mut.ensures.value in
    begun_kept rows n x c.add.new.self h e c.add.ensures.begun
