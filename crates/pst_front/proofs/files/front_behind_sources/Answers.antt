use Rattle.std.proofs.Common.{map, string_bytes}
use Rattle.pst_front.proofs.Ends.{trace_ended, all_read, all_small}
use Rattle.pst_front.proofs.files.front_behind_sources.Goals as goal

pub returns-in-Ok-clause-right : goal.returns-in-Ok-clause-right
returns-in-Ok-clause-right g c =
    all_read (g.S.Shelf.files c.args.shelf.now) (g.S.Shelf.faults c.args.shelf.now) (g.S.Shelf.faults c.read_trace.new.shelf) c.args.line.now.command (map string_bytes c.args.line.now.arguments.now)
    c.args.texts.now c.in-Ok.trace c.front_of_files.result c.in-Ok.ensures.count c.requires.read c.in-Ok.ensures.read c.front_of_files.ensures.comes_to c.front_of_files.ensures.same_trace

pub returns-in-Ok-clause-small : goal.returns-in-Ok-clause-small
returns-in-Ok-clause-small g c =
    all_small (g.S.Shelf.files c.args.shelf.now) (g.S.Shelf.faults c.args.shelf.now) (g.S.Shelf.faults c.read_trace.new.shelf) c.args.line.now.command (map string_bytes c.args.line.now.arguments.now)
    c.in-Ok.trace c.front_of_files.result c.in-Ok.ensures.read c.front_of_files.ensures.same_trace

pub returns-in-Err-clause-right : goal.returns-in-Err-clause-right
returns-in-Err-clause-right g c =
    trace_ended (g.S.Shelf.files c.args.shelf.now) (g.S.Shelf.faults c.args.shelf.now) (g.S.Shelf.faults c.read_trace.new.shelf) c.args.line.now.command (map string_bytes c.args.line.now.arguments.now)
    c.args.texts.now c.in-Err.end c.front_at_end.result c.requires.read c.in-Err.ensures.end c.front_at_end.ensures.says
