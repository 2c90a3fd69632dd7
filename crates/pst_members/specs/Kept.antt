-- Tables of members.
use Rattle.std.specs.Prelude.{◌≡◌, ℕ, ◌<◌, ◌≤◌, List, slice_get, Option, Some}
use Rattle.std.specs.Option.{option_or, option_and_then}
use Rattle.std.specs.HashMap.{get}
use Rattle.pst_base.specs.declared.table.NameId.{NameId}
use Rattle.pst_ast.specs.declared.scope_declaration.Declaration.{Declaration}
use Rattle.pst_ast.specs.declared.scope_declaration.Scope.{Scope}
use Rattle.pst_ast.specs.Lookups.{look_up, member_within}
use Rattle.pst_members.specs.declared.versions.Versions.{Versions}
use Rattle.pst_members.specs.Found.{found, count}
use Rattle.pst_members.specs.declared.key.ScopeKey.{ScopeKey}
use Rattle.pst_members.specs.declared.tables.Table.{Table}
use Rattle.pst_members.specs.declared.tables.Tables.{Tables}
use Rattle.pst_members.specs.declared.linked.Linked.{Linked}
use Rattle.pst_members.specs.Keys.{same_key}
use Rattle.pst_members.specs.Links.{IsLinked}

-- the declarations of each scope of a list
abbrev pub AreLinked : List Declaration → Linked → Type 0
AreLinked ds linked = IsLinked ds (get same_key linked.last) linked.before.items

-- the declaration whose position a version finds by a name
abbrev pub finds : List Declaration → Versions → ℕ → NameId → Option Declaration
finds ds versions version name = option_and_then (slice_get ds) (found versions version name.0)

-- a version is there, and finds what a scope declares, and else what that one found
pub record IsOver (ds : List Declaration) (scope : Scope) (old : Versions) (version : ℕ) (new : Versions) (added : ℕ) : Type 0 where
  pub there : added < count new
  pub over : (name : NameId) → finds ds new added name ≡ option_or (look_up ds scope name) (finds ds old version name)

-- a version finds the members of a base with its bases', which are fewer than so many
pub record IsStart (ds : List Declaration) (versions : Versions) (base : Option Declaration) (version bases : ℕ) : Type 0 where
  pub there : version < count versions
  pub right : (n : ℕ) (name : NameId) → bases ≤ n → finds ds versions version name ≡ option_and_then (λ b. member_within n ds b name) base

-- the version of a table finds the members of its action with its bases', within any greater number of steps than it has bases
pub record IsTable (ds : List Declaration) (versions : Versions) (table : Table) : Type 0 where
  pub there : table.version < count versions
  pub right : (n : ℕ) (name : NameId) → table.bases < n → finds ds versions table.version name ≡ member_within n ds table.action name

-- each is the table of its action
abbrev pub AreTables : List Declaration → Tables → Type 0
AreTables ds tables = (key : ScopeKey) (table : Table) → get same_key tables.kept key ≡ Some table → IsTable ds tables.versions table
