use Rattle.std.proofs.Common.{◌≡◌, drop}
use Rattle.pst_legal.specs.Standing.{last_high}
use Rattle.pst_known.proofs.spans.last_high.Given as goal

abbrev pub invariant-loop-span : goal.invariant-loop-span
invariant-loop-span l = last_high l.high (drop l.span-index l.spans) ≡ last_high l.initial.high l.spans
