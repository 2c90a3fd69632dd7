use Rattle.std.proofs.Common.{◌≡◌, ◌++◌, map, drop}
use Rattle.std.specs.Prelude.{flat_map, option_to_list}
use Rattle.pst_model.specs.ModelView.{view_model}
use Rattle.pst_legal.specs.Binds.{bound_by}
use Rattle.pst_ties.specs.Tieds.{bound_of}
use Rattle.pst_ties.proofs.found.add_ties.Given as goal

abbrev pub invariant-loop-tie : goal.invariant-loop-tie
invariant-loop-tie l = map bound_of l.found.items ++ flat_map (λ tie. option_to_list (bound_by (view_model l.model) l.nodes l.top tie)) (drop l.tie-index l.ties) ≡ map bound_of l.initial.found.items ++ flat_map (λ tie. option_to_list (bound_by (view_model l.model) l.nodes l.top tie)) l.ties
