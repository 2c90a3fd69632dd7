-- Handles that are named, and that an activity doesn't traverse exactly once.
use Rattle.std.specs.Prelude.{◌≡◌, ◌⊎◌, ◌<◌, ℕ, List, Some, IsTrue, slice_get}
use Rattle.pst_ast.specs.DeclarationTree.{UnitTree}
use Rattle.pst_ast.specs.declared.referent.Finding.{Finding}
use Rattle.pst_type_rules.specs.Handles.{IsSteadyIn}
use Rattle.pst_handle_uses.specs.declared.handle_use.Judging.{Judging}
use Rattle.pst_steady.specs.Lined.{HasUnsteady}

-- that of the action by which it is judged, or of one that is derived from it where these must too
abbrev pub IsBroken : List UnitTree → Judging → Type 0
IsBroken units j = (IsSteadyIn units j.action j.name.id → ⊥) ⊎ (IsTrue j.derived × HasUnsteady units j.action j.name.id)

abbrev pub broken_at : Judging → Finding
broken_at j = record { place = j.name.place; rule = 18 }

abbrev pub IsBrokenAt : List UnitTree → List Judging → ℕ → Finding → Type 0
IsBrokenAt units judgings n f = (j : Judging) × (slice_get judgings n ≡ Some j) × IsBroken units j × (f ≡ broken_at j)

-- one of the first n
abbrev pub IsBrokenBefore : List UnitTree → List Judging → ℕ → Finding → Type 0
IsBrokenBefore units judgings n f = (k : ℕ) × (k < n) × IsBrokenAt units judgings k f
