use Rattle.std.proofs.Common.{◌≡◌, ◌++◌, List, length, Bool}
use Rattle.pst_step_parts.specs.Joined.{bits_of}
use Rattle.pst_step_parts.proofs.joins.bits.Given as goal

-- what is left stands before flags that have these bits
abbrev pub invariant-loop-last : goal.invariant-loop-last
invariant-loop-last l = record {
  behind : List Bool;
  whole : l.left ++ behind ≡ l.flags;
  bits : l.bits ≡ bits_of behind;
}

abbrev pub decreases-loop-last : goal.decreases-loop-last
decreases-loop-last l = length l.left
