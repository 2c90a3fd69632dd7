use Rattle.std.proofs.Common.{◌≡◌, ◌++◌, drop, map}
use Rattle.pst_field_domains.proofs.fields.places_of.Given as goal

abbrev pub invariant-loop-field : goal.invariant-loop-field
invariant-loop-field l = l.places.items ++ map (λ f. f.name.place) (drop l.field-index l.fields) ≡ map (λ f. f.name.place) l.fields
