-- Where each declaration has its activity from.
use Rattle.std.specs.Prelude.{◌≡◌, ℕ, List, length, Option, Some, None, true, false, IsSome, slice_get}
use Rattle.pst_ast.specs.DeclarationTree.{UnitTree}
use Rattle.pst_ast.specs.declared.scope_declaration.Declaration.{Declaration}
use Rattle.pst_type_rules.specs.Sites.{DeclaredAction, action_at}
use Rattle.pst_traversals.specs.Own.{own_activity, has_body}
use Rattle.pst_steady.specs.declared.reach.Seed.{Seed}
use Rattle.pst_steady.specs.declared.reach.Seed.TheVariants as seed

-- an action with an activity of its own
pub record IsOwn (action : Option DeclaredAction) (actions : List DeclaredAction) (k : ℕ) : Type 0 where
  pub is : DeclaredAction
  pub found : action ≡ Some is
  pub there : slice_get actions k ≡ Some is
  pub active : IsSome (own_activity is)

-- one that takes its base's
pub record IsTaker (action : Option DeclaredAction) : Type 0 where
  pub is : DeclaredAction
  pub found : action ≡ Some is
  pub without : own_activity is ≡ None
  pub bodiless : has_body is ≡ false

-- one without an activity and with a body, or no action
abbrev pub IsIdle : Option DeclaredAction → Type 0
IsIdle None = Unit {0}
IsIdle (Some a) = (own_activity a ≡ None) × (has_body a ≡ true)

abbrev pub IsSeed : Option DeclaredAction → List DeclaredAction → Seed → Type 0
IsSeed action actions (seed.Own k) = IsOwn action actions k
IsSeed action actions seed.Stop = IsIdle action
IsSeed action actions seed.Inherit = IsTaker action

-- the first n declarations have these, where actions with activities have these numbers
pub record AreSeeds (units : List UnitTree) (ds : List Declaration) (n : ℕ) (actions : List DeclaredAction) (seeds : List Seed) : Type 0 where
  pub long : length seeds ≡ n
  pub each : (i : ℕ) (d : Declaration) (s : Seed) → slice_get ds i ≡ Some d → slice_get seeds i ≡ Some s → IsSeed (action_at units d.name.place) actions s
