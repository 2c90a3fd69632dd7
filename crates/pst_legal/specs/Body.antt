-- What the body of an atomic action does, given the answers of its calls.
-- The statements are the standard's; the order of evaluation as stored here, the traps and the limit on executed
-- statements are this project's own.
use Rattle.std.specs.Prelude.{ℕ, zero, suc, ◌+◌, ℤ, pos, negsuc, int_le, List, [], ◌∷◌, ◌++◌, map, ◌&&◌, nat_eq, nat_lt, if◌then◌else◌, Option, Some, None, slice_get, slice_set}
use Rattle.std.specs.List.{flat_map}
use Rattle.std.specs.Cmp.Lexicographic.{pointwise}
use Rattle.std.specs.Option.{option_map, option_and_then}
use Rattle.std.specs.Ordering.{int_eq}
use Rattle.pst_expr.specs.declared.ranges.Span.{Span}
use Rattle.pst_expr.specs.Value.{value, is_false}
use Rattle.pst_target.specs.declared.call.Call.{Call as Answered}
use Rattle.pst_model.specs.ConstraintTree.{SlotTree, Index, Local, ConstraintTree}
use Rattle.pst_model.specs.BodyTree.{SourceTree, Value, Answer, BodyStepTree, Declare, Assign, Call, If, Repeat, BodyRow, NoBody, MoreBody}
use Rattle.pst_model.specs.ModelTree.{ModelTree, FunctionTree, ContentTree, Atomic, Compound}
use Rattle.pst_scen.specs.declared.act.Act.{Act}
use Rattle.pst_scen.specs.declared.scenario.Scenario.{Scenario}
use Rattle.pst_legal.specs.Types.{type_of}
use Rattle.pst_legal.specs.Standing.{value_of}
use Rattle.pst_legal.specs.Slots.{act_slot}

-- the values of all locals of the body, by number; how many statements and turns have begun; and the answered calls that are left
pub record State : Type 0 where
  pub locals : List ℤ
  pub count : ℕ
  pub left : List Answered

-- what a body, or a part of it, comes to
pub data Outcome : Type 0 where
  -- it goes on from here
  Goes : (state : State) → Outcome
  -- it traps
  Traps : (kind : ℕ) → (left : List Answered) → Outcome
  -- it makes a call for which there is no answer
  Asks : (function : ℕ) → (arguments : List ℤ) → Outcome
  -- it makes another call than the next one
  Strays : Outcome

abbrev pub then_do : Outcome → (State → Outcome) → Outcome
then_do (Goes state) go = go state
then_do (Traps kind left) go = Traps kind left
then_do (Asks function arguments) go = Asks function arguments
then_do Strays go = Strays

abbrev pub most_counts : ℕ
most_counts = 1000

-- a statement or a turn begins
abbrev pub tick : State → Outcome
tick state = if nat_lt state.count most_counts then Goes (record state { count = state.count + 1 }) else Traps 3 state.left

-- ---- values

-- The action with its number, its scenario and model, the ranges of its body's locals, and the numbers of the turns that run, the outermost first.
pub record Place : Type 0 where
  pub ranges : List Span
  pub model : ModelTree
  pub scenario : Scenario
  pub number : ℕ
  pub act : Act
  pub indices : List ℕ

abbrev pub slot_value : Place → List ℤ → SlotTree → Option ℤ
slot_value p locals (Local local) = slice_get locals local
slot_value p locals (Index level) = option_map pos (slice_get p.indices level)
slot_value p locals slot = value_of (act_slot p.model p.scenario p.number p.act slot)

abbrev pub value_now : Place → State → ConstraintTree → Option ℤ
value_now p state k = value k.expression (map (slot_value p state.locals) k.slots)

-- an expression's value goes on; without a value the body traps
abbrev pub with_value : State → Option ℤ → (ℤ → Outcome) → Outcome
with_value state None go = Traps 1 state.left
with_value state (Some v) go = go v

-- a value within the range goes on; another one traps
abbrev pub within : State → Span → ℤ → Outcome → Outcome
within state range v go = if int_le range.low v && int_le v range.high then go else Traps 2 state.left

-- ---- calls

-- The arguments from left to right, each tested against its parameter's range before the next is evaluated.
abbrev pub with_arguments : Place → State → List ConstraintTree → List Span → List ℤ → (List ℤ → Outcome) → Outcome
with_arguments p state [] ranges known go = go known
with_arguments p state (k ∷ more) [] known go = Strays
with_arguments p state (k ∷ more) (range ∷ ranges) known go =
    with_value state (value_now p state k) (λ v. within state range v (with_arguments p state more ranges (known ++ v ∷ []) go))

-- the next answer is one to this call
abbrev pub answered : State → ℕ → List ℤ → List Answered → (ℤ → State → Outcome) → Outcome
answered state function arguments [] go = Asks function arguments
answered state function arguments (call ∷ left) go =
    if nat_eq call.function function && pointwise int_eq call.arguments arguments then go call.answer (record state { left = left }) else Strays

-- the answer of a function that has one is tested against the function's range
abbrev pub tested : Option Span → ℤ → State → Outcome → Outcome
tested None v state go = go
tested (Some range) v state go = within state range v go

abbrev pub call_of : Place → State → ℕ → Option FunctionTree → List ConstraintTree → (ℤ → State → Outcome) → Outcome
call_of p state number None arguments go = Strays
call_of p state number (Some function) arguments go =
    with_arguments p state arguments function.parameters []
    (λ values. answered state number values state.left (λ v next. tested function.answer v next (go v next)))

abbrev pub call : Place → State → ℕ → List ConstraintTree → (ℤ → State → Outcome) → Outcome
call p state function arguments go = call_of p state function (slice_get p.model.functions function) arguments go

abbrev pub source : Place → State → SourceTree → (ℤ → State → Outcome) → Outcome
source p state (Value expression) go = with_value state (value_now p state expression) (λ v. go v state)
source p state (Answer function arguments) go = call p state function arguments go

-- ---- statements

-- the local gets the value, if it is in the range
abbrev pub stored : ℕ → Span → ℤ → State → Outcome
stored local range v state =
    within state range v (Goes (record state { locals = slice_set state.locals local v }))

-- a local without a value starts at 0
abbrev pub started : Place → State → ℕ → Span → Option SourceTree → Outcome
started p state local range None = Goes (record state { locals = slice_set state.locals local (pos 0) })
started p state local range (Some from) = source p state from (stored local range)

-- the local's range is that of its declaration, wherever that stands
abbrev pub assigned : Place → State → ℕ → Option Span → SourceTree → Outcome
assigned p state local None from = Strays
assigned p state local (Some range) from = source p state from (stored local range)

abbrev pub run_turns : (ℕ → State → Outcome) → ℕ → ℕ → State → Outcome
run_turns turn index zero state = Goes state
run_turns turn index (suc n) state = then_do (tick state) (λ begun. then_do (turn index begun) (run_turns turn (index + 1) n))

-- as many turns as the count says; a negative count traps
abbrev pub counted : (ℕ → State → Outcome) → State → ℤ → Outcome
counted turn state (pos n) = run_turns turn 0 n state
counted turn state (negsuc n) = Traps 1 state.left

abbrev pub turned : Place → ℕ → Place
turned p index = record p { indices = p.indices ++ index ∷ [] }

abbrev mutual
  pub run_step : Place → BodyStepTree → State → Outcome
  run_step p (Declare local range from) state = then_do (tick state) (λ begun. started p begun local range from)
  run_step p (Assign local from) state = then_do (tick state) (λ begun. assigned p begun local (slice_get p.ranges local) from)
  run_step p (Call function arguments) state = then_do (tick state) (λ begun. call p begun function arguments (λ v next. Goes next))
  run_step p (If condition holds fails) state =
      then_do (tick state) (λ begun. with_value begun (value_now p begun condition) (λ v. if is_false v then run_row p fails begun else run_row p holds begun))
  run_step p (Repeat count body) state =
      then_do (tick state) (λ begun. with_value begun (value_now p begun count) (counted (λ index. run_row (turned p index) body) begun))

  pub run_row : Place → BodyRow → State → Outcome
  run_row p NoBody state = Goes state
  run_row p (MoreBody step steps) state = then_do (run_step p step state) (run_row p steps)

abbrev pub run_steps : Place → List BodyStepTree → State → Outcome
run_steps p [] state = Goes state
run_steps p (step ∷ steps) state = then_do (run_step p step state) (run_steps p steps)

-- ---- bodies

-- the ranges of the locals that a step declares, in the order of the text
abbrev mutual
  pub ranges_in : BodyStepTree → List Span
  ranges_in (Declare local range from) = range ∷ []
  ranges_in (Assign local from) = []
  ranges_in (Call function arguments) = []
  ranges_in (If condition holds fails) = ranges_in_row holds ++ ranges_in_row fails
  ranges_in (Repeat count body) = ranges_in_row body

  pub ranges_in_row : BodyRow → List Span
  ranges_in_row NoBody = []
  ranges_in_row (MoreBody step steps) = ranges_in step ++ ranges_in_row steps

-- What a body does, given a list of answered calls, where it makes exactly these calls.
pub data BodyRun : Type 0 where
  Ended : BodyRun
  Trap : (kind : ℕ) → BodyRun
  -- it goes on to this call
  Wants : (function : ℕ) → (arguments : List ℤ) → BodyRun

-- no answered call is left
abbrev pub if_none_left : List Answered → BodyRun → Option BodyRun
if_none_left [] run = Some run
if_none_left (call ∷ calls) run = None

abbrev pub run_of : Outcome → Option BodyRun
run_of (Goes state) = if_none_left state.left Ended
run_of (Traps kind left) = if_none_left left (Trap kind)
run_of (Asks function arguments) = Some (Wants function arguments)
run_of Strays = None

abbrev pub steps_in : ContentTree → List BodyStepTree
steps_in (Atomic body) = body
steps_in (Compound activity) = []

-- the steps of the action's body, given the ranges of its locals, which all begin at 0
abbrev pub steps_run : ModelTree → Scenario → List Answered → ℕ → Act → List BodyStepTree → List Span → Option BodyRun
steps_run m s calls a act steps ranges =
    run_of
    (run_steps (record { ranges = ranges; model = m; scenario = s; number = a; act = act; indices = [] }) steps
    (record { locals = map (λ range. pos 0) ranges; count = 0; left = calls }))

abbrev pub body_of : ModelTree → Scenario → List Answered → ℕ → Act → List BodyStepTree → Option BodyRun
body_of m s calls a act steps = steps_run m s calls a act steps (flat_map ranges_in steps)

abbrev pub act_run : ModelTree → Scenario → List Answered → ℕ → Act → Option BodyRun
act_run m s calls a act = option_and_then (λ type. body_of m s calls a act (steps_in type.content)) (type_of m act.action)

-- The body of the action, given these answered calls; nothing where it makes other calls.
abbrev pub body_run : ModelTree → Scenario → ℕ → List Answered → Option BodyRun
body_run m s a calls = option_and_then (act_run m s calls a) (slice_get s.actions a)
