-- The field of a compound action that is given its value at the place at hand.
use Rattle.std.specs.Prelude.{ℕ, List, ◌∷◌}
use Rattle.pst_model.specs.declared.action.Field.{Field}
use Rattle.pst_model.specs.ModelView.{view_model}
use Rattle.pst_link_walk.specs.Walks.{Kept}
use Rattle.pst_field_places.specs.declared.place.FieldPlace.{FieldPlace}
use Rattle.pst_field_places.specs.Places.{IsAtField, IsFieldPlace}

-- the field is the next one of the action of the node
abbrev pub IsFieldOf : Kept → ℕ → Field → Type 0
IsFieldOf k node field = (more : List Field) × IsAtField (view_model k.model) k.root k.seed k.level k.choices node (field ∷ more)

-- the place at hand is this one
abbrev pub IsPlaceOf : Kept → FieldPlace → Type 0
IsPlaceOf k place = IsFieldPlace (view_model k.model) k.root k.seed k.level k.choices place
