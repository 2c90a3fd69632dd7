use Rattle.std.proofs.Common.{take}
use Rattle.pst_declaration_rules.specs.Judged.{IsJudged}
use Rattle.pst_declaration_rules.proofs.findings.least_of_all.Given as goal

abbrev pub invariant-loop-declaration : goal.invariant-loop-declaration
invariant-loop-declaration l = IsJudged l.known (take l.declaration-index l.declaration-items) l.least
