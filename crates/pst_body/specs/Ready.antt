-- Which steps can run where expressions have room for so many slots.
use Rattle.std.specs.Prelude.{◌≡◌, ℕ, ◌<◌, ◌≤◌, List, length, All, IfSome, slice_get}
use Rattle.std.specs.Option.{IsSomeAnd}
use Rattle.pst_model.specs.Limits.{most_parameters}
use Rattle.pst_model.specs.ConstraintTree.{ConstraintTree}
use Rattle.pst_model.specs.BodyTree.{SourceTree, Value, Answer, BodyStepTree, Declare, Assign, Call, If, Repeat, BodyRow, NoBody, MoreBody}
use Rattle.pst_model.specs.ModelTree.{FunctionTree, ModelTree}
use Rattle.pst_model.specs.SoundConstraint.{IsBelow}

-- an expression whose variables are below its slots, for which there is room
pub record CanEvaluate (room : ℕ) (c : ConstraintTree) : Type 0 where
  pub below : IsBelow (length c.slots) c.expression
  pub fits : length c.slots ≤ room

-- as many arguments as parameters, and not too many
pub record CanPass (room : ℕ) (arguments : List ConstraintTree) (function : FunctionTree) : Type 0 where
  pub many : length arguments ≡ length function.parameters
  pub few : length arguments ≤ most_parameters
  pub each : All (CanEvaluate room) arguments

abbrev pub CanCall : ModelTree → ℕ → ℕ → List ConstraintTree → Type 0
CanCall m room function arguments = IsSomeAnd (slice_get m.functions function) (CanPass room arguments)

abbrev pub CanGet : ModelTree → ℕ → SourceTree → Type 0
CanGet m room (Value expression) = CanEvaluate room expression
CanGet m room (Answer function arguments) = CanCall m room function arguments

-- each part of the step can run, in a body of so many locals
abbrev mutual
  pub CanRun : ModelTree → ℕ → ℕ → BodyStepTree → Type 0
  CanRun m locals room (Declare local range from) = IfSome from (CanGet m room)
  CanRun m locals room (Assign local from) = (local < locals) × CanGet m room from
  CanRun m locals room (Call function arguments) = CanCall m room function arguments
  CanRun m locals room (If condition holds fails) = CanEvaluate room condition × CanRunRow m locals room holds × CanRunRow m locals room fails
  CanRun m locals room (Repeat count body) = CanEvaluate room count × CanRunRow m locals room body

  pub CanRunRow : ModelTree → ℕ → ℕ → BodyRow → Type 0
  CanRunRow m locals room NoBody = Unit {0}
  CanRunRow m locals room (MoreBody head tail) = CanRun m locals room head × CanRunRow m locals room tail

-- there is room for the slots of each expression in these
abbrev pub HasRoom : ℕ → ConstraintTree → Type 0
HasRoom room c = length c.slots ≤ room

abbrev pub HasRoomToGet : ℕ → SourceTree → Type 0
HasRoomToGet room (Value expression) = HasRoom room expression
HasRoomToGet room (Answer function arguments) = All (HasRoom room) arguments

abbrev mutual
  pub HasRoomToRun : ℕ → BodyStepTree → Type 0
  HasRoomToRun room (Declare local range from) = IfSome from (HasRoomToGet room)
  HasRoomToRun room (Assign local from) = HasRoomToGet room from
  HasRoomToRun room (Call function arguments) = All (HasRoom room) arguments
  HasRoomToRun room (If condition holds fails) = HasRoom room condition × HasRoomToRunRow room holds × HasRoomToRunRow room fails
  HasRoomToRun room (Repeat count body) = HasRoom room count × HasRoomToRunRow room body

  pub HasRoomToRunRow : ℕ → BodyRow → Type 0
  HasRoomToRunRow room NoBody = Unit {0}
  HasRoomToRunRow room (MoreBody head tail) = HasRoomToRun room head × HasRoomToRunRow room tail

-- the steps can run where there is room for their slots
abbrev pub AreReady : ModelTree → ℕ → List BodyStepTree → Type 0
AreReady m locals steps = (room : ℕ) → All (HasRoomToRun room) steps → All (CanRun m locals room) steps
