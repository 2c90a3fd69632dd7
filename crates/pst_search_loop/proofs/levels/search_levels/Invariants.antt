use Rattle.std.proofs.Common.{◌≤◌, ◌-◌}
use Rattle.pst_search_loop.specs.Levels.{ArePast, IsOfSearch}
use Rattle.pst_search_loop.proofs.levels.search_levels.Given as goal

abbrev pub invariant-loop-walker : goal.invariant-loop-walker
invariant-loop-walker g l = record {
  of_search : IsOfSearch (g.W.Walker.kept l.fn.walker) (g.W.Walker.kept l.walker);
  past : ArePast (g.W.Walker.kept l.fn.walker) l.level l.budget l.left;
  few : l.level ≤ l.infer;
}

abbrev pub decreases-loop-walker : goal.decreases-loop-walker
decreases-loop-walker g l = l.infer - l.level
