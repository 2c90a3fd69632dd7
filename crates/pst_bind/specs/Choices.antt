-- What the candidates of a reference or claim come to.
use Rattle.std.specs.Prelude.{◌≡◌, ◌<◌, ℕ, nat_eq, not, List, [], ◌∷◌, map, Option, Some, None, slice_get, if◌then◌else◌}
use Rattle.std.specs.List.{list_any}
use Rattle.pst_base.specs.declared.position.Place.{Place}
use Rattle.pst_ast.specs.declared.instance.Instance.{Instance}
use Rattle.pst_ast.specs.declared.referent.Finding.{Finding}
use Rattle.pst_ast.specs.NameRules.{finding}
use Rattle.pst_bind.specs.declared.choices.Choice.{Choice}
use Rattle.pst_bind.specs.declared.choices.Choice.TheVariants as choice
use Rattle.pst_bound_pools.specs.declared.default_rows.DefaultRows.{DefaultRows}
use Rattle.pst_bind.specs.declared.default_choices.TypeChoices.{TypeChoices}
use Rattle.pst_bound_pools.specs.Serving.{first_filled, parent_of, with_those_above}
use Rattle.pst_bind.specs.Nearest.{default_row}

abbrev pub choice_of : List ℕ → Choice
choice_of [] = choice.Nothing
choice_of (p ∷ more) = if list_any (λ q. not (nat_eq q p)) more then choice.Several else choice.One p

-- the pool, where there is one
abbrev pub pool_of : Choice → Option ℕ
pool_of (choice.One pool) = Some pool
pool_of choice.Several = None
pool_of choice.Nothing = None

-- rule 22 or 23 at the name of a reference or claim
abbrev pub finding_at : Place → Choice → Option Finding
finding_at place choice.Nothing = finding place 22
finding_at place choice.Several = finding place 23
finding_at place (choice.One pool) = None

-- ---- default binds

-- each instance stands behind the one that it stands in
abbrev pub AreBehind : List Instance → Type 0
AreBehind instances = (n parent : ℕ) → parent_of instances n ≡ Some parent → parent < n

-- what the default binds come to in an instance, for objects of the type whose name stands at a place
abbrev pub default_choice : DefaultRows → List Instance → Place → ℕ → Choice
default_choice rows instances place n = choice_of (first_filled (map (default_row rows place) (with_those_above instances n)))

-- the same in the first instances
abbrev pub AreChoices : DefaultRows → List Instance → Place → List Choice → Type 0
AreChoices rows instances place choices = (n : ℕ) (c : Choice) → slice_get choices n ≡ Some c → c ≡ default_choice rows instances place n

abbrev pub AreTypeChoices : DefaultRows → List Instance → List TypeChoices → Type 0
AreTypeChoices rows instances known = (k : ℕ) (t : TypeChoices) → slice_get known k ≡ Some t → AreChoices rows instances t.place t.choices.items
