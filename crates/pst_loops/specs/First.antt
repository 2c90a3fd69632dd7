-- The first declaration on a loop of bases or instances.
use Rattle.std.specs.Prelude.{ℕ, ◌≡◌, ◌<◌, ◌⊎◌, List, Option, Some, None, slice_get}
use Rattle.std.specs.List.{Contains}
use Rattle.pst_base.specs.declared.position.Place.{Place}
use Rattle.pst_base.specs.Places.{IsBefore}
use Rattle.pst_ast.specs.declared.scope_declaration.Declaration.{Declaration}
use Rattle.pst_ast.specs.declared.referent.Finding.{Finding}
use Rattle.pst_ast.specs.NameRules.{Reaches}

abbrev pub IsNotAfter : Place → Place → Type 0
IsNotAfter p q = IsBefore p q ⊎ (p ≡ q)

-- a breach of rule 5 at the name of one of those, and none of them is before it
pub record IsFirst (OnLoop : Declaration → Type 0) (found : Finding) : Type 0 where
  pub rule : found.rule ≡ 5
  pub is : (d : Declaration) × OnLoop d × (found.place ≡ d.name.place)
  pub first : (d : Declaration) → OnLoop d → IsNotAfter found.place d.name.place

-- the first of those, or none where there are none
abbrev pub IsFirstOf : (Declaration → Type 0) → Option Finding → Type 0
IsFirstOf OnLoop None = (d : Declaration) → OnLoop d → ⊥
IsFirstOf OnLoop (Some found) = IsFirst OnLoop found

-- one of the declarations, whose bases, or the instances in it, lead back to it
abbrev pub IsOnLoop : List Declaration → Declaration → Type 0
IsOnLoop ds d = Contains ds d × Reaches ds d d

abbrev pub IsFirstOnLoop : List Declaration → Option Finding → Type 0
IsFirstOnLoop ds found = IsFirstOf (IsOnLoop ds) found

-- ---- the same of the first n of the declarations

abbrev pub IsOnLoopWithin : ℕ → List Declaration → Declaration → Type 0
IsOnLoopWithin n ds d = (k : ℕ) × (k < n) × (slice_get ds k ≡ Some d) × Reaches ds d d

abbrev pub IsFirstWithin : ℕ → List Declaration → Option Finding → Type 0
IsFirstWithin n ds found = IsFirstOf (IsOnLoopWithin n ds) found

-- before what was found, where something was
abbrev pub IsEarlier : Place → Option Finding → Type 0
IsEarlier place None = Unit {0}
IsEarlier place (Some found) = IsBefore place found.place

-- the bases of the declaration that stands there, or the instances in it, lead back to it
abbrev pub LeadsBack : List Declaration → ℕ → Type 0
LeadsBack ds k = (d : Declaration) → slice_get ds k ≡ Some d → Reaches ds d d
