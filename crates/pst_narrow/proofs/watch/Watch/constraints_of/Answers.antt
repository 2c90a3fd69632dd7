use Rattle.std.proofs.Common.{length, refl, sym}
use Rattle.std.proofs.lemmas.Option.{slice_get_read}
use Rattle.pst_narrow.proofs.watch.Watch.constraints_of.Goals as goal

pub returns : goal.returns
returns c =
    let rows = c.args.self.now.watching.items in
    (c.index.result.now, slice_get_read rows (length rows) c.args.variable c.index.result.now refl c.requires c.index.ensures, sym c.as_slice.ensures.value)
