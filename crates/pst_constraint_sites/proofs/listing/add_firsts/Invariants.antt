use Rattle.std.proofs.Common.{◌≡◌, ◌++◌, drop, map}
use Rattle.std.specs.Prelude.{flat_map}
use Rattle.pst_model.specs.ModelView.{view_model}
use Rattle.pst_constraint_sites.specs.Groups.{first_object_groups}
use Rattle.pst_constraint_sites.specs.Views.{view_group}
use Rattle.pst_constraint_sites.proofs.listing.add_firsts.Given as goal

abbrev pub invariant-loop-first : goal.invariant-loop-first
invariant-loop-first l = map view_group l.groups.items ++ flat_map (first_object_groups (view_model l.model)) (drop l.first-index l.firsts) ≡ map view_group l.initial.groups.items ++ flat_map (first_object_groups (view_model l.model)) l.firsts
