use Rattle.std.proofs.Common.{◌≡◌, ◌++◌, drop, map}
use Rattle.pst_sources.proofs.fields.places_of.Given as goal

abbrev pub invariant-loop-row : goal.invariant-loop-row
invariant-loop-row l = l.places.items ++ map (λ r. r.owner.name.place) (drop l.row-index l.rows) ≡ map (λ r. r.owner.name.place) l.rows
