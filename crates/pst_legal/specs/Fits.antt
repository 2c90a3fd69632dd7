-- Which scenarios fill the root's activity: the tree, its values and its pools.
use Rattle.std.specs.Prelude.{◌≡◌, ℕ, zero, suc, ◌<◌, ℤ, List, [], ◌∷◌, length, take, true, false, Option, Some, None, slice_get}
use Rattle.std.specs.List.{AllZip}
use Rattle.pst_model.specs.declared.action.Reference.{Reference}
use Rattle.pst_model.specs.declared.action.Claim.{Claim}
use Rattle.pst_model.specs.declared.model.Pool.{Pool}
use Rattle.pst_model.specs.ModelTree.{ModelTree, ActionTree, ObjectTree}
use Rattle.pst_scen.specs.declared.act.Act.{Act}
use Rattle.pst_scen.specs.declared.act.Filled.{Filled}
use Rattle.pst_scen.specs.declared.act.Claimed.{Claimed}
use Rattle.pst_scen.specs.declared.scenario.First.{First}
use Rattle.pst_scen.specs.declared.scenario.Scenario.{Scenario}
use Rattle.pst_legal.specs.Types.{type_of, served, served_claim, reference_flow, action_reference, pool_object, is_output}
use Rattle.pst_legal.specs.Growing.{nothing_yet, Look, with_look, most_levels, IsWithin}
use Rattle.pst_legal.specs.Pieces.{Piece, Action, IsWay, IsValueOf}

-- ---- the tree

-- how a piece stands in a tree: below a parent, the tree before it goes on to the one after it
abbrev pub Filling : Type 1
Filling = Piece → Option ℕ → Scenario → Scenario → Type 0

-- the pieces in order, below one node
abbrev pub FillAll : Filling → List Piece → ℕ → Scenario → Scenario → Type 0
FillAll One [] parent before after = after ≡ before
FillAll One (x ∷ xs) parent before after = (mid : Scenario) × One x (Some parent) before mid × FillAll One xs parent mid after

-- A piece, in at most so many levels: its node, and then what stands below it.
abbrev pub Fills : ModelTree → ℕ → Filling
Fills m zero piece parent before after = ⊥
Fills m (suc levels) piece parent before after =
    (look : Look) × (below : List Piece) × IsWay m piece look below × FillAll (Fills m levels) below (length before.nodes) (with_look m before parent look) after

-- the same action of the same leaf, whatever its values and links
pub record IsSameLeaf (act leaf : Act) : Type 0 where
  pub action : act.action ≡ leaf.action
  pub instance : act.instance ≡ leaf.instance
  pub node : act.node ≡ leaf.node

-- the nodes and the leaves fill the root
pub record FillsRoot (m : ModelTree) (root : ℕ) (s : Scenario) : Type 0 where
  pub tree : Scenario
  pub fills : Fills m most_levels (Action root None) None (nothing_yet s.level) tree
  pub nodes : s.nodes ≡ tree.nodes
  pub leaves : AllZip IsSameLeaf (take (length tree.actions) s.actions) tree.actions

-- ---- values and pools

-- each value is in the domain of its field; an input has none
abbrev pub AreObjectValues : Option ObjectTree → List ℤ → Type 0
AreObjectValues None values = ⊥
AreObjectValues (Some object) values = AllZip IsValueOf object.fields values

-- the reference of that number: its pool and its direction are the model's, and an output has its object's values
pub record IsReferenceOf (m : ModelTree) (act : Act) (number : ℕ) (filled : Filled) : Type 0 where
  pub reference : Reference
  pub is : action_reference m act.action number ≡ Some reference
  pub pool : served m act.action act.instance number ≡ Some filled.pool
  pub flow : reference_flow m reference ≡ Some filled.flow
  pub output : is_output filled.flow ≡ true → AreObjectValues (slice_get m.objects reference.object) filled.values
  pub input : is_output filled.flow ≡ false → filled.values ≡ []

-- the claim of that number: its pool and whether it locks are the model's, and the instance is one of the pool's
pub record IsClaimOf (m : ModelTree) (act : Act) (number : ℕ) (claim : Claim) (claimed : Claimed) : Type 0 where
  pub is_pool : served_claim m act.action act.instance number ≡ Some claimed.pool
  pub lock : claimed.lock ≡ claim.lock
  pub pool : Pool
  pub is : slice_get m.pools claimed.pool ≡ Some pool
  pub within : claimed.instance < pool.size
  pub values : AreObjectValues (slice_get m.objects claim.object) claimed.values

-- an action has a value for each field, an entry for each reference, and one for each claim
pub record IsActOf (m : ModelTree) (act : Act) : Type 0 where
  pub type : ActionTree
  pub is : type_of m act.action ≡ Some type
  pub fields : AllZip IsValueOf type.fields act.fields
  pub many_references : length act.references ≡ length type.references
  pub references : (number : ℕ) (filled : Filled) → slice_get act.references number ≡ Some filled → IsReferenceOf m act number filled
  pub many_claims : length act.claims ≡ length type.claims
  pub claims : (number : ℕ) (claim : Claim) (claimed : Claimed) → slice_get type.claims number ≡ Some claim → slice_get act.claims number ≡ Some claimed → IsClaimOf m act number claim claimed

pub record HasValues (m : ModelTree) (s : Scenario) : Type 0 where
  pub acts : (a : ℕ) (act : Act) → slice_get s.actions a ≡ Some act → IsActOf m act
  pub firsts : (k : ℕ) (first : First) → slice_get s.firsts k ≡ Some first → AreObjectValues (pool_object m first.pool) first.values

-- The scenario fills the activity of the root, with values of the declared domains and the model's pools, within the limits.
pub record Fits (m : ModelTree) (root : ℕ) (s : Scenario) : Type 0 where
  pub tree : FillsRoot m root s
  pub values : HasValues m s
  pub within : IsWithin s.nodes s.actions
