use Rattle.std.proofs.Common.{◌≡◌, ◌++◌, drop}
use Rattle.std.specs.List.{flat_map}
use Rattle.pst_tree.specs.Needed.{needs_within}
use Rattle.pst_type_members.specs.Listed.{is_of}
use Rattle.pst_type_members.proofs.rows.Members.add_each.Given as goal

abbrev pub invariant-loop-base : goal.invariant-loop-base
invariant-loop-base l = l.found.items ++ flat_map (needs_within (is_of l.by) l.self) (drop l.base-index l.bases) ≡ l.initial.found.items ++ flat_map (needs_within (is_of l.by) l.self) l.bases
