use Rattle.std.proofs.Common.{◌≡◌, ◌++◌, drop}
use Rattle.pst_supply.specs.Needs.{needs_from}
use Rattle.pst_supply.proofs.listing.add_needs.Given as goal

abbrev pub invariant-loop-filled : goal.invariant-loop-filled
invariant-loop-filled l = (l.number ≡ l.filled-index) × (l.found.items ++ needs_from l.act l.filled-index (drop l.filled-index l.references) ≡ l.initial.found.items ++ needs_from l.act 0 l.references)
