use Rattle.std.proofs.Common.{◌≡◌, ◌<◌, length, Some, refl, arith}
use Rattle.std.specs.Prelude.{slice_get}
use Rattle.std.proofs.lemmas.Option.{slice_get_read}
use Rattle.std.proofs.lemmas.Result.{on_ok_weaker}
use Rattle.pst_legal.specs.Supplied.{is_source_for}
use Rattle.pst_open_ends.proofs.News.{added_at}
use Rattle.pst_open_ends.proofs.beyond.add_source.Goals as goal

pub returns : goal.returns
returns c =
    let rows = c.args.pools.now.items in
    let n = c.args.pool in
    let x = c.index_mut.result.now in
    let h : n < length rows = omega arith in
    let e : slice_get rows n ≡ Some x = slice_get_read rows (length rows) n x refl h c.index_mut.ensures.value in
    on_ok_weaker c.add.result (added_at rows n x c.add.new.self h e c.args.source (λ need. is_source_for need c.args.flow)) c.add.ensures
