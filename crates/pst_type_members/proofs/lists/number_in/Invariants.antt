use Rattle.std.proofs.Common.{◌≡◌, ◌+◌, drop}
use Rattle.pst_tree.specs.Bases
use Rattle.pst_type_members.proofs.lists.number_in.Given as goal

abbrev pub invariant-loop-number : goal.invariant-loop-number
invariant-loop-number l = l.number + Bases.number_in (drop l.number l.list) l.declaration ≡ Bases.number_in l.list l.declaration
