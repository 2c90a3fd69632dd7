use Rattle.std.proofs.Common.{◌≡◌, ◌++◌, drop}
use Rattle.pst_blanks.specs.Blanks.{claims_from}
use Rattle.pst_blanks.proofs.listing.add_claims.Given as goal

abbrev pub invariant-loop-claim : goal.invariant-loop-claim
invariant-loop-claim l = (l.claim ≡ l._claim-index) × (l.places.items ++ claims_from l.served l.act l.action l.instance l.references l._claim-index (drop l._claim-index l.claims) ≡ l.initial.places.items ++ claims_from l.served l.act l.action l.instance l.references 0 l.claims)
