use Rattle.std.proofs.Common.{sym, ◌∙◌, subst}
use Rattle.pst_touched.specs.Touched.{Has}
use Rattle.pst_touched.proofs.Ways.{has_push, way_more}
use Rattle.pst_touched.proofs.upward.+add_way.Goals as goal

pub returns-clause-way : goal.returns-clause-way
returns-clause-way t c =
    let n = c.args.n in
    let e = c.in_ok-add_way.ensures in
    way_more c.args.nodes.now c.add_way.new.found.items n c.in-Some.parent (sym c.parent_of.ensures ∙ c.in-Some.is) e.way
    (e.kept n (subst (λ list. Has list n) (sym c.in_ok-push.ensures.items) (has_push c.args.found.now.items n)))
