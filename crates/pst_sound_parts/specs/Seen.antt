-- What is kept of the traversals of a handle.
use Rattle.std.specs.Prelude.{List, [], ◌∷◌, Bool, true, false}
use Rattle.pst_sound_parts.specs.declared.traversals.Seen.{Seen}
use Rattle.pst_sound_parts.specs.declared.traversals.Seen.TheVariants.{Never, Once, Otherwise}

-- none; one, which isn't within a conditional step; or any others
abbrev pub seen_of : List Bool → Seen
seen_of [] = Never
seen_of (true ∷ rest) = Otherwise
seen_of (false ∷ []) = Once
seen_of (false ∷ next ∷ rest) = Otherwise

-- what is kept of traversals and further ones
abbrev pub joined : Seen → Seen → Seen
joined Never later = later
joined Once Never = Once
joined Once Once = Otherwise
joined Once Otherwise = Otherwise
joined Otherwise later = Otherwise
