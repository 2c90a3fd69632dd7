use Rattle.std.proofs.Common.{◌≡◌, ◌++◌, map, drop}
use Rattle.pst_model.specs.ModelView.{view_model}
use Rattle.pst_ties.specs.Tieds.{bound_of, bounds_from}
use Rattle.pst_ties.proofs.found.all_ties.Given as goal

abbrev pub invariant-loop-top : goal.invariant-loop-top
invariant-loop-top l = map bound_of l.found.items ++ bounds_from (view_model l.model) l.nodes l.top (drop l.top l.nodes) ≡ bounds_from (view_model l.model) l.nodes 0 l.nodes
