use Rattle.pst_search_loop.proofs.Searching.{Searching}
use Rattle.pst_search_loop.proofs.level.search_level.Given as goal

abbrev pub invariant-loop-spent : goal.invariant-loop-spent
invariant-loop-spent g l = Searching (g.W.Walker.kept l.fn.walker) (g.W.Walker.kept l.walker) l.frames.items l.shown l.spent
