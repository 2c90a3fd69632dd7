-- Models without where they lie in memory: two models with one tree are the same model.
use Rattle.std.specs.Prelude.{List, Bool, Option}
use Rattle.pst_base.specs.declared.table.NameId.{NameId}
use Rattle.pst_expr.specs.declared.ranges.Span.{Span}
use Rattle.pst_model.specs.declared.action.Field.{Field}
use Rattle.pst_model.specs.declared.action.Reference.{Reference}
use Rattle.pst_model.specs.declared.action.Claim.{Claim}
use Rattle.pst_model.specs.declared.object.ObjectKind.{ObjectKind}
use Rattle.pst_model.specs.declared.model.Part.{Part}
use Rattle.pst_model.specs.declared.model.Pool.{Pool}
use Rattle.pst_model.specs.declared.model.Serve.{Serve}
use Rattle.pst_model.specs.ConstraintTree.{ConstraintTree}
use Rattle.pst_model.specs.ActivityTree.{ActivityTree}
use Rattle.pst_model.specs.BodyTree.{BodyStepTree}

-- what an action does
pub data ContentTree : Type 0 where
  Atomic : (body : List BodyStepTree) → ContentTree
  Compound : (activity : ActivityTree) → ContentTree

-- an action type, with what it inherits
pub record ActionTree : Type 0 where
  pub name : NameId
  pub component : NameId
  pub is_abstract : Bool
  pub fields : List Field
  pub references : List Reference
  pub claims : List Claim
  pub constraints : List ConstraintTree
  pub content : ContentTree

-- a type of flow objects or of resources
pub record ObjectTree : Type 0 where
  pub name : NameId
  pub kind : ObjectKind
  pub fields : List Field
  pub constraints : List ConstraintTree

-- an imported function: the ranges of its parameters, and of its answer, if it gives one
pub record FunctionTree : Type 0 where
  pub name : NameId
  pub parameters : List Span
  pub answer : Option Span

pub record ModelTree : Type 0 where
  pub actions : List ActionTree
  pub objects : List ObjectTree
  pub instances : List Part
  pub pools : List Pool
  pub functions : List FunctionTree
  pub served : List Serve
