-- When a model is sound: each number in it names an entry of the right sort, the limits are kept, and so are the rules of the
-- language that can be seen in a model.
use Rattle.std.specs.Prelude.{◌≡◌, ◌≢◌, ◌<◌, ◌≤◌, List, [], length, slice_get, All, IfSome}
use Rattle.std.specs.Option.{IsSomeAnd}
use Rattle.pst_expr.specs.Spans.{IsDomain}
use Rattle.pst_model.specs.declared.action.Field.{Field}
use Rattle.pst_model.specs.declared.action.Reference.{Reference}
use Rattle.pst_model.specs.declared.action.Claim.{Claim}
use Rattle.pst_model.specs.declared.object.ObjectKind.TheVariants.{Resource}
use Rattle.pst_model.specs.declared.model.Pool.{Pool}
use Rattle.pst_model.specs.Limits.{most_fields, most_elements, most_references, most_claims, most_parameters, most_size, most_instances}
use Rattle.pst_model.specs.ModelTree.{ContentTree, Atomic, Compound, ActionTree, ObjectTree, FunctionTree, ModelTree}
use Rattle.pst_model.specs.SoundConstraint.{IsSoundConstraint}
use Rattle.pst_model.specs.SoundSlots.{IsConstraintSlot, IsObjectSlot, IsOfKind}
use Rattle.pst_model.specs.SoundActivity.{IsSoundActivity}
use Rattle.pst_model.specs.SoundBody.{IsSoundBody}
use Rattle.pst_model.specs.Preorder.{IsInstanceTree}
use Rattle.pst_model.specs.Served.{IsInOrder, IsSoundServe, IsServedWhole}

pub record IsSoundField (field : Field) : Type 0 where
  pub domain : IsDomain field.domain
  pub element : IfSome field.element (λ index. index < most_elements)

pub record IsSoundObject (object : ObjectTree) : Type 0 where
  pub few_fields : length object.fields ≤ most_fields
  pub fields : All IsSoundField object.fields
  pub constraints : All (IsSoundConstraint (IsObjectSlot object)) object.constraints

-- a reference is of a flow object
abbrev pub IsSoundReference : List ObjectTree → Reference → Type 0
IsSoundReference objects reference = IsSomeAnd (slice_get objects reference.object) (λ object. object.kind ≢ Resource)

-- a claim is of a resource
abbrev pub IsSoundClaim : List ObjectTree → Claim → Type 0
IsSoundClaim objects claim = IsOfKind objects Resource claim.object

-- a compound action has no references and no claims
pub record IsSoundCompound (action : ActionTree) : Type 0 where
  pub references : action.references ≡ []
  pub claims : action.claims ≡ []

abbrev pub IsSoundContent : ModelTree → ActionTree → ContentTree → Type 0
IsSoundContent model action (Atomic body) = IsSoundBody model action body
IsSoundContent model action (Compound activity) = IsSoundCompound action × IsSoundActivity model action activity

pub record IsSoundAction (model : ModelTree) (action : ActionTree) : Type 0 where
  pub few_fields : length action.fields ≤ most_fields
  pub few_references : length action.references ≤ most_references
  pub few_claims : length action.claims ≤ most_claims
  pub fields : All IsSoundField action.fields
  pub references : All (IsSoundReference model.objects) action.references
  pub claims : All (IsSoundClaim model.objects) action.claims
  pub constraints : All (IsSoundConstraint (IsConstraintSlot model action)) action.constraints
  pub content : IsSoundContent model action action.content

pub record IsSoundPool (model : ModelTree) (pool : Pool) : Type 0 where
  pub instance : pool.instance < length model.instances
  pub object : pool.object < length model.objects
  pub least : 1 ≤ pool.size
  pub most : pool.size ≤ most_size

abbrev pub IsSoundFunction : FunctionTree → Type 0
IsSoundFunction function = length function.parameters ≤ most_parameters

pub record IsSound (model : ModelTree) : Type 0 where
  pub actions : All (IsSoundAction model) model.actions
  pub objects : All IsSoundObject model.objects
  pub few_instances : length model.instances ≤ most_instances
  pub instances : IsInstanceTree model.instances
  pub pools : All (IsSoundPool model) model.pools
  pub functions : All IsSoundFunction model.functions
  pub order : IsInOrder model.served
  pub served : All (IsSoundServe model) model.served
  pub whole : IsServedWhole model
