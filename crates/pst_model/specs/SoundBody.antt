-- When the body of an atomic action is sound.
use Rattle.std.specs.Prelude.{◌≡◌, ℕ, ◌+◌, ◌<◌, ◌≤◌, List, [], ◌∷◌, ◌++◌, length, slice_get, All, IfSome, IsSome, Some}
use Rattle.std.specs.List.{flat_map}
use Rattle.std.specs.Option.{IsSomeAnd}
use Rattle.pst_model.specs.Limits.{most_locals}
use Rattle.pst_model.specs.ConstraintTree.{ConstraintTree}
use Rattle.pst_model.specs.BodyTree.{SourceTree, Value, Answer, BodyStepTree, Declare, Assign, Call, If, Repeat, BodyRow, NoBody, MoreBody}
use Rattle.pst_model.specs.ModelTree.{ActionTree, FunctionTree, ModelTree}
use Rattle.pst_model.specs.SoundConstraint.{IsSoundConstraint}
use Rattle.pst_model.specs.SoundSlots.{IsBodySlot}

-- the numbers of the locals that a step declares, in the order of the text
abbrev mutual
  pub locals_in : BodyStepTree → List ℕ
  locals_in (Declare local range value) = local ∷ []
  locals_in (Assign local value) = []
  locals_in (Call function arguments) = []
  locals_in (If condition holds fails) = locals_in_row holds ++ locals_in_row fails
  locals_in (Repeat count body) = locals_in_row body

  pub locals_in_row : BodyRow → List ℕ
  locals_in_row NoBody = []
  locals_in_row (MoreBody head tail) = locals_in head ++ locals_in_row tail

-- the numbers of a body's locals, in order of declaration
abbrev pub locals_of : List BodyStepTree → List ℕ
locals_of body = flat_map locals_in body

-- P holds of each step in a step, itself included, with the number of repetitions round it
abbrev mutual
  pub EachBodyStep : (ℕ → BodyStepTree → Type 0) → ℕ → BodyStepTree → Type 0
  EachBodyStep P levels (Declare local range value) = P levels (Declare local range value)
  EachBodyStep P levels (Assign local value) = P levels (Assign local value)
  EachBodyStep P levels (Call function arguments) = P levels (Call function arguments)
  EachBodyStep P levels (If condition holds fails) = P levels (If condition holds fails) × EachInRow P levels holds × EachInRow P levels fails
  EachBodyStep P levels (Repeat count body) = P levels (Repeat count body) × EachInRow P (levels + 1) body

  pub EachInRow : (ℕ → BodyStepTree → Type 0) → ℕ → BodyRow → Type 0
  EachInRow P levels NoBody = Unit {0}
  EachInRow P levels (MoreBody head tail) = EachBodyStep P levels head × EachInRow P levels tail

-- P holds of each step in the parts of a step, with the number of repetitions round it
abbrev pub EachBodyPart : (ℕ → BodyStepTree → Type 0) → ℕ → BodyStepTree → Type 0
EachBodyPart P levels (Declare local range value) = Unit {0}
EachBodyPart P levels (Assign local value) = Unit {0}
EachBodyPart P levels (Call function arguments) = Unit {0}
EachBodyPart P levels (If condition holds fails) = EachInRow P levels holds × EachInRow P levels fails
EachBodyPart P levels (Repeat count body) = EachInRow P (levels + 1) body

-- an expression of a body
abbrev pub IsBodyExpression : ModelTree → ActionTree → ℕ → ℕ → ConstraintTree → Type 0
IsBodyExpression model action locals levels c = IsSoundConstraint (IsBodySlot model.objects action locals levels) c

-- a call has an argument for each parameter
abbrev pub IsCall : ModelTree → ActionTree → ℕ → ℕ → List ConstraintTree → FunctionTree → Type 0
IsCall model action locals levels arguments function = (length arguments ≡ length function.parameters) × All (IsBodyExpression model action locals levels) arguments

-- an expression, or a call of a function that gives an answer
abbrev pub IsSource : ModelTree → ActionTree → ℕ → ℕ → SourceTree → Type 0
IsSource model action locals levels (Value expression) = IsBodyExpression model action locals levels expression
IsSource model action locals levels (Answer function arguments) = IsSomeAnd (slice_get model.functions function) (λ f. IsCall model action locals levels arguments f × IsSome f.answer)

-- what holds of one step of a body, whatever its parts are
abbrev pub IsSoundBodyStep : ModelTree → ActionTree → ℕ → ℕ → BodyStepTree → Type 0
IsSoundBodyStep model action locals levels (Declare local range value) = IfSome value (IsSource model action locals levels)
IsSoundBodyStep model action locals levels (Assign local value) = (local < locals) × IsSource model action locals levels value
IsSoundBodyStep model action locals levels (Call function arguments) = IsSomeAnd (slice_get model.functions function) (IsCall model action locals levels arguments)
IsSoundBodyStep model action locals levels (If condition holds fails) = IsBodyExpression model action locals levels condition
IsSoundBodyStep model action locals levels (Repeat count body) = IsBodyExpression model action locals levels count

pub record IsSoundBody (model : ModelTree) (action : ActionTree) (body : List BodyStepTree) : Type 0 where
  pub few : length (locals_of body) ≤ most_locals
  -- a local's number is that of its declaration
  pub numbered : (k local : ℕ) → slice_get (locals_of body) k ≡ Some local → local ≡ k
  pub steps : All (EachBodyStep (IsSoundBodyStep model action (length (locals_of body))) 0) body
