use Rattle.std.proofs.Common.{◌≡◌, ◌++◌, take}
use Rattle.pst_action_needs.proofs.table.needs_in.Given as goal

abbrev pub invariant-loop-reference : goal.invariant-loop-reference
invariant-loop-reference l = l.needs.items ≡ take l.reference-index l.row.references.items

abbrev pub invariant-loop-claim : goal.invariant-loop-claim
invariant-loop-claim l = l.needs.items ≡ l.row.references.items ++ take l.claim-index l.row.claims.items
