-- What is known of the activities of all actions.
use Rattle.std.specs.Prelude.{◌≡◌, ◌<◌, ℕ, List, length, map, Bool, false, Option, Some, None, IsTrue, slice_get}
use Rattle.std.specs.HashMap.{HashMap, get}
use Rattle.std.specs.Option.{option_map_or}
use Rattle.pst_base.specs.declared.table.NameId.{NameId}
use Rattle.pst_ast.specs.DeclarationTree.{UnitTree}
use Rattle.pst_ast.specs.declared.scope_declaration.Declaration.{Declaration}
use Rattle.pst_ast.specs.Declarations.{declarations}
use Rattle.pst_ast.specs.Sorts.{is_action}
use Rattle.pst_type_rules.specs.Handles.{IsSteadyIn}
use Rattle.pst_type_rules.specs.Members.{IsOrDerives}
use Rattle.pst_type_rules.specs.Sites.{DeclaredAction}
use Rattle.pst_traversals.specs.declared.tally.TallyKey.{TallyKey}
use Rattle.pst_traversals.specs.Tallied.{same_key, tally_of}
use Rattle.pst_steady.specs.declared.reach.Seed.{Seed}
use Rattle.pst_steady.specs.declared.reach.Seed.TheVariants as seed
use Rattle.pst_steady.specs.Numbered.{AreBases}
use Rattle.pst_steady.specs.Reached.{AreReached, value_at}
use Rattle.pst_steady.specs.Seeded.{AreSeeds}

-- each declaration has the number of its base, and of the action whose activity it has; each of these actions has its tallies
pub record AreLined {S : Type 0} (units : List UnitTree) (bases : List (Option ℕ)) (values : List (Option ℕ)) (tallies : HashMap TallyKey Bool S) : Type 0 where
  pub actions : List DeclaredAction
  pub seeds : List Seed
  pub bases_are : AreBases (declarations units) bases
  pub seeds_are : AreSeeds units (declarations units) (length (declarations units)) actions seeds
  pub reached : AreReached seeds bases values
  pub tallied : (key : TallyKey) → get same_key tallies key ≡ tally_of actions key

abbrev pub is_once : Option Bool → Bool
is_once tally = option_map_or (λ b. b) tally false

-- an action that is or derives from another has no steady activity for the handle
pub record HasUnsteady (units : List UnitTree) (action : Declaration) (handle : NameId) : Type 0 where
  pub number : ℕ
  pub derived : Declaration
  pub there : slice_get (declarations units) number ≡ Some derived
  pub derives : IsOrDerives (declarations units) derived action
  pub acts : IsTrue (is_action action.sort)
  pub unsteady : IsSteadyIn units derived handle → ⊥

-- whether a declaration is the action, or else takes from its base whether it derives from it
abbrev pub IsMark : Declaration → Declaration → Seed → Type 0
IsMark action d (seed.Own k) = (d ≡ action) × IsTrue (is_action action.sort)
IsMark action d seed.Stop = ⊥
IsMark action d seed.Inherit = d ≡ action → IsTrue (is_action action.sort) → ⊥

pub record AreMarks (ds : List Declaration) (action : Declaration) (n : ℕ) (marks : List Seed) : Type 0 where
  pub long : length marks ≡ n
  pub each : (i : ℕ) (d : Declaration) (s : Seed) → slice_get ds i ≡ Some d → slice_get marks i ≡ Some s → IsMark action d s

-- one of the first n that are marked has no steady activity for the handle
pub record IsUnsteadyAmong (units : List UnitTree) (marked : List (Option ℕ)) (n : ℕ) (handle : NameId) : Type 0 where
  pub number : ℕ
  pub derived : Declaration
  pub mark : ℕ
  pub before : number < n
  pub there : slice_get (declarations units) number ≡ Some derived
  pub is_marked : value_at marked number ≡ Some mark
  pub unsteady : IsSteadyIn units derived handle → ⊥
