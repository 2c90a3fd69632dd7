use Rattle.std.proofs.Common.{◌≡◌, ◌++◌, drop}
use Rattle.std.specs.List.{flat_map}
use Rattle.pst_tree.specs.Needed.{needs_within}
use Rattle.pst_action_needs.specs.Inheriting.{is_need_of}
use Rattle.pst_action_needs.proofs.rows.add_all.Given as goal

abbrev pub invariant-loop-owner : goal.invariant-loop-owner
invariant-loop-owner l =
    l.found.items ++ flat_map (needs_within (is_need_of l.by) l.index) (drop l.owner-index l.owners) ≡ l.initial.found.items ++ flat_map (needs_within (is_need_of l.by) l.index) l.owners
