use Rattle.std.proofs.Common.{◌≡◌, ◌++◌, drop}
use Rattle.pst_blanks.specs.Blanks.{fields_from}
use Rattle.pst_blanks.proofs.listing.add_fields.Given as goal

abbrev pub invariant-loop-field : goal.invariant-loop-field
invariant-loop-field l = (l.number ≡ l._field-index) × (l.places.items ++ fields_from l.blank l.at l._field-index (drop l._field-index l.fields) ≡ l.initial.places.items ++ fields_from l.blank l.at 0 l.fields)
