-- Actions whose bases lead round to themselves.
use Rattle.std.specs.Prelude.{◌≡◌, ℕ, zero, suc, ◌-◌, ◌<◌, List, length, slice_get, Option, Some}
use Rattle.std.specs.Option.{option_and_then}
use Rattle.pst_base.specs.declared.table.NameId.{NameId}
use Rattle.pst_ast.specs.declared.scope_declaration.Declaration.{Declaration}
use Rattle.pst_ast.specs.Lookups.{base_of, member_within}
use Rattle.pst_members.specs.declared.versions.Versions.{Versions}
use Rattle.pst_members.specs.Found.{count}
use Rattle.pst_members.specs.Kept.{finds}

-- the action to which so many steps along bases lead
abbrev pub led : ℕ → List Declaration → Declaration → Option Declaration
led zero ds d = Some d
led (suc k) ds d = option_and_then (led k ds) (base_of ds d)

-- each is the base of the next, and the last that of the first
pub record IsRound (ds round : List Declaration) : Type 0 where
  pub next : (i : ℕ) (d e : Declaration) → slice_get round i ≡ Some d → slice_get round (suc i) ≡ Some e → base_of ds e ≡ Some d
  pub back : (d e : Declaration) → slice_get round 0 ≡ Some d → slice_get round (length round - 1) ≡ Some e → base_of ds d ≡ Some e

-- the base of the one that stands there
abbrev pub before : List Declaration → ℕ → Option Declaration
before round zero = slice_get round (length round - 1)
before round (suc i) = slice_get round i

-- a version is there, and finds the members of an action, where there is one, and of fewer bases than so many
pub record IsCut (ds : List Declaration) (versions : Versions) (version steps : ℕ) (action : Option Declaration) : Type 0 where
  pub there : version < count versions
  pub right : (name : NameId) → finds ds versions version name ≡ option_and_then (λ d. member_within steps ds d name) action
