-- Which scenarios fit a model in shape, whatever their values are: what every call on a model and a scenario asks for.
use Rattle.std.specs.Prelude.{◌≡◌, ℕ, ◌<◌, ℤ, List, [], length, true, false, Option, Some, None, slice_get}
use Rattle.pst_model.specs.declared.action.Reference.{Reference}
use Rattle.pst_model.specs.declared.action.Claim.{Claim}
use Rattle.pst_model.specs.ActivityTree.{ActivityTree}
use Rattle.pst_model.specs.ModelTree.{ModelTree, ActionTree, ObjectTree}
use Rattle.pst_scen.specs.declared.tree.Node.{Node}
use Rattle.pst_scen.specs.declared.tree.Fill.TheVariants as fill
use Rattle.pst_scen.specs.declared.act.Act.{Act}
use Rattle.pst_scen.specs.declared.act.Filled.{Filled}
use Rattle.pst_scen.specs.declared.act.Claimed.{Claimed}
use Rattle.pst_scen.specs.declared.scenario.First.{First}
use Rattle.pst_scen.specs.declared.scenario.Scenario.{Scenario}
use Rattle.pst_legal.specs.Types.{type_of, activity_in, pool_object}

-- a value for each field of an object of the type
pub record HasObjectShape (object : Option ObjectTree) (values : List ℤ) : Type 0 where
  pub type : ObjectTree
  pub is : object ≡ Some type
  pub many : length values ≡ length type.fields

-- a compound node is of a compound type, in an instance that there is, with a value for each field
pub record HasCompoundShape (m : ModelTree) (action instance : ℕ) (fields : List ℤ) : Type 0 where
  pub type : ActionTree
  pub is : type_of m action ≡ Some type
  pub activity : ActivityTree
  pub compound : activity_in type.content ≡ Some activity
  pub inside : instance < length m.instances
  pub many : length fields ≡ length type.fields

-- a reference has a pool that there is, and an output a value for each field of its object
pub record HasReferenceShape (m : ModelTree) (reference : Reference) (filled : Filled) : Type 0 where
  pub pool : filled.pool < length m.pools
  pub output : reference.output ≡ true → HasObjectShape (slice_get m.objects reference.object) filled.values
  pub input : reference.output ≡ false → filled.values ≡ []

pub record HasClaimShape (m : ModelTree) (claim : Claim) (claimed : Claimed) : Type 0 where
  pub pool : claimed.pool < length m.pools
  pub values : HasObjectShape (slice_get m.objects claim.object) claimed.values

-- an action is of an atomic type, in an instance that there is, with a value for each field and an entry for each reference
-- and each claim
pub record HasActShape (m : ModelTree) (act : Act) : Type 0 where
  pub type : ActionTree
  pub is : type_of m act.action ≡ Some type
  pub atomic : activity_in type.content ≡ None
  pub inside : act.instance < length m.instances
  pub many_fields : length act.fields ≡ length type.fields
  pub many_references : length act.references ≡ length type.references
  pub references : (k : ℕ) (reference : Reference) (filled : Filled) → slice_get type.references k ≡ Some reference → slice_get act.references k ≡ Some filled → HasReferenceShape m reference filled
  pub many_claims : length act.claims ≡ length type.claims
  pub claims : (k : ℕ) (claim : Claim) (claimed : Claimed) → slice_get type.claims k ≡ Some claim → slice_get act.claims k ≡ Some claimed → HasClaimShape m claim claimed

-- The scenario fits the model in shape.
pub record HasShape (m : ModelTree) (s : Scenario) : Type 0 where
  pub compounds : (n action instance : ℕ) (fields : List ℤ) (node : Node) → slice_get s.nodes n ≡ Some node → node.fill ≡ fill.Compound action instance fields → HasCompoundShape m action instance fields
  pub acts : (a : ℕ) (act : Act) → slice_get s.actions a ≡ Some act → HasActShape m act
  pub pools : (k : ℕ) (first : First) → slice_get s.firsts k ≡ Some first → first.pool < length m.pools
  pub firsts : (k : ℕ) (first : First) → slice_get s.firsts k ≡ Some first → HasObjectShape (pool_object m first.pool) first.values
