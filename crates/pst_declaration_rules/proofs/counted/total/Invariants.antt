use Rattle.std.proofs.Common.{◌≡◌, drop}
use Rattle.pst_declaration_rules.specs.Counted.{total}
use Rattle.pst_declaration_rules.proofs.counted.total.Given as goal

abbrev pub invariant-loop-member : goal.invariant-loop-member
invariant-loop-member l = total l.kind l.sum (drop l.member-index l.members) ≡ total l.kind l.fn.start l.members
