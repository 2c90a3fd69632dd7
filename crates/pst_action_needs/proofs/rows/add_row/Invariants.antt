use Rattle.std.proofs.Common.{◌≡◌, ◌++◌, drop}
use Rattle.pst_type_rules.specs.Members.{those_that}
use Rattle.pst_action_needs.specs.Inheriting.{is_need_of}
use Rattle.pst_action_needs.proofs.rows.add_row.Given as goal

abbrev pub invariant-loop-member : goal.invariant-loop-member
invariant-loop-member l = l.found.items ++ those_that (is_need_of l.by) (drop l.member-index l.row) ≡ l.initial.found.items ++ those_that (is_need_of l.by) l.row
