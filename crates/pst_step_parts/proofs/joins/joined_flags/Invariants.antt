use Rattle.std.proofs.Common.{◌≡◌, ◌++◌, drop}
use Rattle.pst_step_parts.specs.Joined.{flags_of}
use Rattle.pst_step_parts.proofs.joins.joined_flags.Given as goal

abbrev pub invariant-loop-label : goal.invariant-loop-label
invariant-loop-label l = l.flags.items ++ flags_of l.named.items (drop l.label-index l.labels) ≡ flags_of l.fn.names.items l.labels
