-- Tables of names: lists of different texts.
use Rattle.std.specs.Prelude.{ℕ, List, [], ◌∷◌, ◌++◌, if◌then◌else◌}
use Rattle.std.specs.List.{list_any, IsDistinct}
use Rattle.std.specs.Str.{bytes_eq}

-- the table once it has the text: a text that is there stays in its place, a new one goes last
abbrev pub with_text : List (List ℕ) → List ℕ → List (List ℕ)
with_text names text = if list_any (bytes_eq text) names then names else names ++ text ∷ []

-- no text stands twice
abbrev pub AreDifferent : List (List ℕ) → Type 0
AreDifferent names = IsDistinct bytes_eq names
