use Rattle.std.proofs.Common.{map, string_bytes}
use Rattle.pst_portable.proofs.Done.{line_is}
use Rattle.pst_portable.proofs.words.request_of_line.Goals as goal

pub returns-in-Ok-clause-is : goal.returns-in-Ok-clause-is
returns-in-Ok-clause-is g c =
    line_is (g.S.Shelf.files c.args.shelf.now) (g.S.Shelf.faults c.args.shelf.now) (g.S.Shelf.faults c.front_of_line.new.shelf) c.args.line.now.command (map string_bytes c.args.line.now.arguments.now)
    c.in-Ok.front c.request_of_front.result c.in-Ok.ensures.right c.request_of_front.ensures.done
