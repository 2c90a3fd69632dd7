-- The place of a field at which reading stands.
use Rattle.std.specs.Prelude.{◌≡◌}
use Rattle.pst_field_places.specs.declared.place.FieldPlace.{FieldPlace}
use Rattle.pst_shape_steps.specs.declared.pending.At.{At}
use Rattle.pst_shape_steps.specs.declared.pending.At.TheVariants as at

-- the fields to which choices there give values
abbrev pub IsFieldAt : At → FieldPlace → Type 0
IsFieldAt (at.Value f levels below) place = (place.node ≡ f.node) × (place.fields.now ≡ f.fields.now)
IsFieldAt other place = ⊥
