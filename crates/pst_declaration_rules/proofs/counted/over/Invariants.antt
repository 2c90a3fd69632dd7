use Rattle.std.proofs.Common.{◌≡◌, drop}
use Rattle.pst_declaration_rules.specs.Counted.{over}
use Rattle.pst_declaration_rules.proofs.counted.over.Given as goal

abbrev pub invariant-loop-member : goal.invariant-loop-member
invariant-loop-member l = over l.kind l.sum (drop l.member-index l.members) ≡ over l.kind l.fn.start l.members
