use Rattle.std.proofs.Common.{◌≡◌, ◌++◌, drop, map}
use Rattle.pst_sites.proofs.find.places_of_fields.Given as goal

abbrev pub invariant-loop-field : goal.invariant-loop-field
invariant-loop-field l = l.places.items ++ map (λ f. f.name.place) (drop l.field-index l.fields) ≡ map (λ f. f.name.place) l.fields
