use Rattle.std.proofs.Common.{◌≡◌, ◌+◌, drop}
use Rattle.std.specs.List.{flat_map}
use Rattle.pst_tree.specs.Bases
use Rattle.pst_tree.specs.Needed.{needs_within}
use Rattle.pst_type_members.specs.Listed.{is_of}
use Rattle.pst_type_members.proofs.rows.Members.number_behind.Given as goal

abbrev pub invariant-loop-type_ : goal.invariant-loop-type_
invariant-loop-type_ l =
    l.before + Bases.number_in (flat_map (needs_within (is_of l.by) l.self) (drop l.type_-index l.types)) l.member
    ≡ Bases.number_in (flat_map (needs_within (is_of l.by) l.self) l.types) l.member
