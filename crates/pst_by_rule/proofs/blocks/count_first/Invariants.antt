use Rattle.std.proofs.Common.{◌≡◌, ◌+◌, drop}
use Rattle.pst_by_rule.specs.Blocks.{block_length}
use Rattle.pst_by_rule.proofs.blocks.count_first.Given as goal

abbrev pub invariant-loop-i : goal.invariant-loop-i
invariant-loop-i l = block_length (drop l.i l.events) + l.i ≡ block_length l.events
