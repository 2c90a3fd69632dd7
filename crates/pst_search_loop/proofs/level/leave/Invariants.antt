use Rattle.pst_search_loop.specs.declared.walker.Look.TheVariants as look
use Rattle.pst_search_loop.specs.Search.{Closes, rank}
use Rattle.pst_search_loop.proofs.level.leave.Given as goal

abbrev pub invariant-loop-walker : goal.invariant-loop-walker
invariant-loop-walker g l = Closes (g.W.Walker.kept l.fn.walker) (g.W.Walker.kept l.walker) l.frames.items (look.Closed l.conflict)

abbrev pub decreases-loop-walker : goal.decreases-loop-walker
decreases-loop-walker g l = rank (g.W.Walker.kept l.walker).choices
