use Rattle.std.proofs.Common.{◌≡◌, ◌++◌, drop, map}
use Rattle.std.specs.Prelude.{flat_map}
use Rattle.std.specs.List.{enumerate_from}
use Rattle.pst_model.specs.ModelView.{view_model}
use Rattle.pst_constraint_sites.specs.Groups.{output_groups}
use Rattle.pst_constraint_sites.specs.Views.{view_group}
use Rattle.pst_constraint_sites.proofs.listing.add_outputs.Given as goal

abbrev pub invariant-loop-filled : goal.invariant-loop-filled
invariant-loop-filled l = (l.number ≡ l.filled-index) × (map view_group l.groups.items ++ flat_map (output_groups (view_model l.model) l.act) (enumerate_from l.filled-index (drop l.filled-index l.references)) ≡ map view_group l.initial.groups.items ++ flat_map (output_groups (view_model l.model) l.act) (enumerate_from 0 l.references))
