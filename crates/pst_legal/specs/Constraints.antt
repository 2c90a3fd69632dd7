-- Which constraints a scenario has, and when they hold.
-- That constraints hold of the values that are used is the standard's; that a constraint without a value doesn't hold is
-- this project's own.
use Rattle.std.specs.Prelude.{◌≡◌, ℕ, ℤ, List, map, Contains, Bool, true, Option, Some, slice_get}
use Rattle.pst_expr.specs.Value.{value}
use Rattle.pst_domain.specs.Interval.{interval, is_refused}
use Rattle.pst_model.specs.ConstraintTree.{SlotTree, ConstraintTree}
use Rattle.pst_model.specs.ActivityTree.{Traverse}
use Rattle.pst_model.specs.declared.action.Claim.{Claim}
use Rattle.pst_model.specs.ModelTree.{ModelTree, ActionTree, ObjectTree}
use Rattle.pst_scen.specs.declared.tree.Node.{Node}
use Rattle.pst_scen.specs.declared.tree.Fill.TheVariants as fill
use Rattle.pst_scen.specs.declared.act.Act.{Act}
use Rattle.pst_scen.specs.declared.act.Filled.{Filled}
use Rattle.pst_scen.specs.declared.scenario.Scenario.{Scenario}
use Rattle.pst_legal.specs.Types.{type_of, pool_object, is_state_pool, is_output}
use Rattle.pst_legal.specs.Pieces.{is_true}
use Rattle.pst_scen.specs.Scenarios.{reference_at}
use Rattle.pst_legal.specs.Statements.{StandsFor}
use Rattle.pst_legal.specs.Standing.{Standing, value_of, bound_of}
use Rattle.pst_legal.specs.Slots.{node_slot, act_slot, inline_slot, output_slot, resource_slot, first_object_slot}

-- an action of the scenario, with its type
pub record IsActOfType (m : ModelTree) (s : Scenario) (a : ℕ) (act : Act) (type : ActionTree) : Type 0 where
  pub is : slice_get s.actions a ≡ Some act
  pub of_type : type_of m act.action ≡ Some type

-- The scenario, which may still be read, has the constraint, and its slots stand for that.
pub data HasConstraint (m : ModelTree) (s : Scenario) : ConstraintTree → (SlotTree → Standing) → Type 0 where
  -- of a compound action
  OfCompound : (n action instance : ℕ) (fields : List ℤ) (node : Node) (type : ActionTree) (k : ConstraintTree)
      → slice_get s.nodes n ≡ Some node → node.fill ≡ fill.Compound action instance fields → type_of m action ≡ Some type
      → Contains type.constraints k → HasConstraint m s k (node_slot m s n)
  -- of an atomic action
  OfAct : (a : ℕ) (act : Act) (type : ActionTree) (k : ConstraintTree)
      → IsActOfType m s a act type → Contains type.constraints k → HasConstraint m s k (act_slot m s a act)
  -- of the object that an action writes
  OfOutput : (a r : ℕ) (filled : Filled) (object : ObjectTree) (k : ConstraintTree)
      → reference_at s.actions a r ≡ Some filled → is_output filled.flow ≡ true → pool_object m filled.pool ≡ Some object
      → Contains object.constraints k → HasConstraint m s k (output_slot m s a r filled)
  -- of the resource that an action claims
  OfClaim : (a c : ℕ) (act : Act) (type : ActionTree) (claim : Claim) (object : ObjectTree) (k : ConstraintTree)
      → IsActOfType m s a act type → slice_get type.claims c ≡ Some claim → slice_get m.objects claim.object ≡ Some object
      → Contains object.constraints k → HasConstraint m s k (resource_slot m a act c)
  -- of the first object of a state pool that an action refers to
  OfFirst : (a r : ℕ) (filled : Filled) (object : ObjectTree) (k : ConstraintTree)
      → reference_at s.actions a r ≡ Some filled → is_state_pool m filled.pool ≡ true → pool_object m filled.pool ≡ Some object
      → Contains object.constraints k → HasConstraint m s k (first_object_slot m s filled.pool)
  -- inline, at a traversal in the activity of the compound action of node `top`
  Inline : (n top action : ℕ) (handle : Option ℕ) (inline : List ConstraintTree) (indices : List ℕ) (k : ConstraintTree)
      → StandsFor m s.nodes top n (Traverse action handle inline) indices
      → Contains inline k → HasConstraint m s k (inline_slot m s n top indices)

-- the value of a constraint
abbrev pub value_at : ConstraintTree → (SlotTree → Standing) → Option ℤ
value_at k standing = value k.expression (map (λ slot. value_of (standing slot)) k.slots)

-- Every constraint has a value that isn't 0.
abbrev pub Holds : ModelTree → Scenario → Type 0
Holds m s = (k : ConstraintTree) (standing : SlotTree → Standing) → HasConstraint m s k standing → is_true (value_at k standing) ≡ true

-- its span, at what is known of its slots, tells that it can't hold
abbrev pub is_refused_at : ConstraintTree → (SlotTree → Standing) → Bool
is_refused_at k standing = is_refused (interval k.expression (map (λ slot. bound_of (standing slot)) k.slots))
