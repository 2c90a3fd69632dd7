use Rattle.std.proofs.Common.{◌∙◌, []}
use Rattle.pst_model.specs.ModelView.{view_model}
use Rattle.pst_legal.specs.Growing.{nothing_yet}
use Rattle.pst_shape_parts.specs.Trees.{Tree}
use Rattle.pst_shape_steps.proofs.Levels.{first_read}
use Rattle.pst_shape_steps.proofs.Closed.{open_placed, closed_stops}
use Rattle.pst_shape.proofs.pick.first.Goals as goal

abbrev no_tree : Tree
no_tree = record { nodes = []; leaves = [] }

pub is_closed-requires : goal.is_closed-requires
is_closed-requires c = open_placed c.in_ok-at.at no_tree (c.in_ok-at.ensures.opens no_tree)

pub returns-then-is_closed-clause-reads : goal.returns-then-is_closed-clause-reads
returns-then-is_closed-clause-reads c = λ seed level left.
    let m = view_model c.args.model.now in
    first_read m c.args.root c.in_ok-below.below.value c.in_ok-at.at c.in_ok-below.ensures.ok (c.in_ok-at.ensures.reads no_tree) seed level left
    ∙ closed_stops m seed c.in_ok-at.at (nothing_yet level) 0 left (open_placed c.in_ok-at.at no_tree (c.in_ok-at.ensures.opens no_tree)) (c.is_closed.ensures.closed c.if-is_closed.true)

pub returns-clause-reads : goal.returns-clause-reads
returns-clause-reads c = λ seed level left.
    first_read (view_model c.args.model.now) c.args.root c.in_ok-below.below.value c.in_ok-at.at c.in_ok-below.ensures.ok (c.in_ok-at.ensures.reads no_tree) seed level left

pub returns-clause-ready : goal.returns-clause-ready
returns-clause-ready c = c.is_closed.ensures.ready c.if-is_closed.false c.in_ok-at.ensures.still
