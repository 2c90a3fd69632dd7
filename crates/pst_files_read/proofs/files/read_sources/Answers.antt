use Rattle.std.proofs.Common.{map, string_bytes}
use Rattle.pst_files_read.proofs.Sources.{ended_same}
use Rattle.pst_files_read.proofs.files.read_sources.Goals as goal

pub returns-in-Err-clause-end : goal.returns-in-Err-clause-end
returns-in-Err-clause-end g c =
    ended_same (g.S.Shelf.files c.args.shelf.now) (g.S.Shelf.files c.loop-number.shelf) (g.S.Shelf.faults c.args.shelf.now) (g.S.Shelf.faults c.loop-number.shelf) (g.S.Shelf.faults c.read_argument.new.shelf)
    (map string_bytes c.args.arguments.now) c.in-Err.end c.loop-number.invariant.same_files c.loop-number.invariant.count c.in-Err.ensures.end
