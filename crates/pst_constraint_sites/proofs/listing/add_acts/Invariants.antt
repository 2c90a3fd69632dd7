use Rattle.std.proofs.Common.{◌≡◌, ◌++◌, drop, map}
use Rattle.std.specs.Prelude.{flat_map}
use Rattle.std.specs.List.{enumerate_from}
use Rattle.pst_model.specs.ModelView.{view_model}
use Rattle.pst_constraint_sites.specs.Groups.{act_groups}
use Rattle.pst_constraint_sites.specs.Views.{view_group}
use Rattle.pst_constraint_sites.proofs.listing.add_acts.Given as goal

abbrev pub invariant-loop-act : goal.invariant-loop-act
invariant-loop-act l = (l.number ≡ l.act-index) × (map view_group l.groups.items ++ flat_map (act_groups (view_model l.model)) (enumerate_from l.act-index (drop l.act-index l.acts)) ≡ map view_group l.initial.groups.items ++ flat_map (act_groups (view_model l.model)) (enumerate_from 0 l.acts))
