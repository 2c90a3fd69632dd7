-- Which bases of a type are marked.
use Rattle.std.specs.Prelude.{ℕ, Bool, List, [], ◌∷◌, Option, Some, None}
use Rattle.std.specs.List.{filter}
use Rattle.std.specs.Option.{is_some, option_map_or, option_or}
use Rattle.pst_base.specs.declared.position.Place.{Place}
use Rattle.pst_places.specs.Numbers.{number_in}
use Rattle.pst_ast.specs.declared.scope_declaration.Declaration.{Declaration}
use Rattle.pst_tree.specs.Bases.{bases_within, with_bases}

-- a type is marked where its name's place is among these
abbrev pub is_marked : List Place → Declaration → Bool
is_marked places d = is_some (number_in places d.name.place)

-- a type and its bases, as far as they are marked, the furthest first
abbrev pub marked_bases : List Place → List Declaration → Declaration → List Declaration
marked_bases places ds d = filter (is_marked places) (with_bases ds d)

-- those of so many types at most
abbrev pub marked_within : List Place → List Declaration → ℕ → Option Declaration → List Declaration
marked_within places ds k d = filter (is_marked places) (option_map_or (bases_within k ds) d [])

-- the last of some types
abbrev pub last_of : List Declaration → Option Declaration
last_of [] = None
last_of (d ∷ more) = option_or (last_of more) (Some d)
