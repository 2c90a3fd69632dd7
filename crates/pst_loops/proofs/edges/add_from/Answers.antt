use Rattle.std.proofs.Common.{rules}
use Rattle.std.proofs.lemmas.Result.{on_ok_weaker}
use Rattle.pst_loops.proofs.Adding.{from_one}
use Rattle.pst_loops.proofs.edges.add_from.Goals as goal

pub returns-in-Some : goal.returns-in-Some
returns-in-Some c = on_ok_weaker c.add_edge.result
    (from_one c.places_are_ordered.ensures.never c.args.declarations.now c.args.place c.args.to c.in-Some.from c.args.rows.now c.add_edge.new.rows (c.requires.order (search rules)) c.in-Some.ensures)
    c.add_edge.ensures
