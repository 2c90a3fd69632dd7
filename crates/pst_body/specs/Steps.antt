-- The parts of a step's run.
use Rattle.std.specs.Prelude.{◌≡◌, ℕ, ℤ, pos, List, [], Bool, Result, Ok, Err, Some, None, slice_get, if◌then◌else◌}
use Rattle.pst_expr.specs.declared.ranges.Span.{Span}
use Rattle.pst_expr.specs.Value.{is_false}
use Rattle.pst_target.specs.declared.call.Call.{Call as Answered}
use Rattle.pst_model.specs.ConstraintTree.{ConstraintTree}
use Rattle.pst_model.specs.BodyTree.{BodyStepTree, Declare, Assign, Call, If, Repeat}
use Rattle.pst_legal.specs.Body.{State, Outcome, Goes, Traps, Place, value_now, with_value, started, assigned, stored, call, counted, turned, run_turns, run_row, run_steps}
use Rattle.pst_body.specs.declared.ending.BodyEnd.{BodyEnd}
use Rattle.pst_body.specs.declared.ending.BodyEnd.TheVariants.{Fault, Trap, NoMemory}
use Rattle.pst_body.specs.Stores.{Store, state_of}

-- an answer is dropped
abbrev pub dropped : ℤ → State → Outcome
dropped v state = Goes state

-- what a step does once it is counted
abbrev pub begun : Place → BodyStepTree → State → Outcome
begun p (Declare local range from) state = started p state local range from
begun p (Assign local from) state = assigned p state local (slice_get p.ranges local) from
begun p (Call function arguments) state = call p state function arguments dropped
begun p (If condition holds fails) state = with_value state (value_now p state condition) (λ v. if is_false v then run_row p fails state else run_row p holds state)
begun p (Repeat count body) state = with_value state (value_now p state count) (counted (λ index. run_row (turned p index) body) state)

-- so many turns of these steps, the first of them of that number
abbrev pub turns_of : Place → List BodyStepTree → ℕ → ℕ → State → Outcome
turns_of p body index count state = run_turns (λ i. run_steps (turned p i) body) index count state

-- the local has the value, or it isn't in the range
abbrev pub Stored : {A : Type 0} → ℕ → Span → ℤ → Store → Store → Result A BodyEnd → Type 0
Stored local range v old new (Ok u) =
    (new ≡ record old { locals = new.locals }) × ((left : List Answered) → stored local range v (state_of old left) ≡ Goes (state_of new left))
Stored local range v old new (Err (Trap kind)) =
    (new ≡ old) × ((left : List Answered) → stored local range v (state_of old left) ≡ Traps kind left)
Stored local range v old new (Err (Fault call)) = ⊥
Stored local range v old new (Err NoMemory) = ⊥

-- the condition has a value, and whether it is false; or it has none
abbrev pub Decided : Place → ConstraintTree → Store → Result Bool BodyEnd → Type 0
Decided p c store (Ok b) = (v : ℤ) × (value_now p (state_of store []) c ≡ Some v) × (is_false v ≡ b)
Decided p c store (Err (Trap kind)) = (value_now p (state_of store []) c ≡ None) × (kind ≡ 1)
Decided p c store (Err (Fault call)) = ⊥
Decided p c store (Err NoMemory) = ⊥

-- the count has a value, which isn't negative; or the body traps
abbrev pub Counted : Place → ConstraintTree → Store → Result ℕ BodyEnd → Type 0
Counted p c store (Ok n) = value_now p (state_of store []) c ≡ Some (pos n)
Counted p c store (Err (Trap kind)) = ((left : List Answered) (turn : ℕ → State → Outcome) → with_value (state_of store left) (value_now p (state_of store []) c) (counted turn (state_of store left)) ≡ Traps 1 left) × (kind ≡ 1)
Counted p c store (Err (Fault call)) = ⊥
Counted p c store (Err NoMemory) = ⊥
