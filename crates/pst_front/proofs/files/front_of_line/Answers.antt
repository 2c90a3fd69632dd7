use Rattle.std.proofs.Common.{ℕ, List, map, string_bytes, sym, subst}
use Rattle.std.specs.Prelude.{Option}
use Rattle.pst_io.specs.Shelf.{Files}
use Rattle.pst_files_read.specs.Files.{AreRead, sources_in}
use Rattle.pst_front.proofs.Ends.{sources_ended, same_shelf}
use Rattle.pst_front.proofs.files.front_of_line.Goals as goal

pub front_behind_sources-requires-clause-read : goal.front_behind_sources-requires-clause-read
front_behind_sources-requires-clause-read g c =
    subst (λ (fs : Option Files). AreRead fs (sources_in (map string_bytes c.args.line.now.arguments.now)) c.as_slice.result.now) (sym c.in-Ok.ensures.same_files)
    (subst (λ (ts : List (List ℕ)). AreRead (g.S.Shelf.files c.args.shelf.now) (sources_in (map string_bytes c.args.line.now.arguments.now)) ts) (sym c.as_slice.ensures.value) c.in-Ok.ensures.read)

pub returns-in-Ok-clause-right : goal.returns-in-Ok-clause-right
returns-in-Ok-clause-right g c =
    same_shelf (g.S.Shelf.files c.args.shelf.now) (g.S.Shelf.files c.read_sources.new.shelf) (g.S.Shelf.faults c.args.shelf.now) (g.S.Shelf.faults c.read_sources.new.shelf) (g.S.Shelf.faults c.front_behind_sources.new.shelf)
    c.args.line.now.command (map string_bytes c.args.line.now.arguments.now) c.front_behind_sources.result
    c.in-Ok.ensures.same_files c.in-Ok.ensures.count c.front_behind_sources.ensures.right

pub returns-in-Err-clause-right : goal.returns-in-Err-clause-right
returns-in-Err-clause-right g c =
    sources_ended (g.S.Shelf.files c.args.shelf.now) (g.S.Shelf.faults c.args.shelf.now) (g.S.Shelf.faults c.read_sources.new.shelf) c.args.line.now.command (map string_bytes c.args.line.now.arguments.now)
    c.in-Err.end c.front_at_end.result c.in-Err.ensures.end c.front_at_end.ensures.says
