-- A body that ends or traps with some answered calls does the same with more of them, and leaves these.
use Rattle.std.proofs.Common.{◌≡◌, ℕ, zero, suc, ◌+◌, ℤ, pos, negsuc, int_le, List, [], ◌∷◌, ◌++◌, Bool, true, false, ◌&&◌, nat_eq, nat_lt, if◌then◌else◌, Option, Some, None, slice_get, map, refl, sym, subst}
use Rattle.std.specs.List.{flat_map}
use Rattle.std.specs.Option.{option_and_then}
use Rattle.std.specs.Cmp.Lexicographic.{pointwise}
use Rattle.std.specs.Ordering.{int_eq}
use Rattle.pst_expr.specs.declared.ranges.Span.{Span}
use Rattle.pst_expr.specs.Value.{is_false}
use Rattle.pst_target.specs.declared.call.Call.{Call as Answered}
use Rattle.pst_model.specs.ConstraintTree.{ConstraintTree}
use Rattle.pst_model.specs.BodyTree.{SourceTree, Value, Answer, BodyStepTree, Declare, Assign, Call, If, Repeat, BodyRow, NoBody, MoreBody}
use Rattle.pst_model.specs.ModelTree.{FunctionTree, ActionTree, ModelTree}
use Rattle.pst_scen.specs.declared.act.Act.{Act}
use Rattle.pst_scen.specs.declared.scenario.Scenario.{Scenario}
use Rattle.pst_legal.specs.Types.{type_of}
use Rattle.pst_legal.specs.Laws.{IsOver, BodiesEndOnce}
use Rattle.pst_legal.specs.Body.{State, Outcome, Goes, Traps, Asks, Strays, then_do, tick, most_counts, Place, value_now, with_value, within, with_arguments, answered, tested, call_of, source, stored, started, assigned, run_turns, counted, turned, run_step, run_row, run_steps, BodyRun, Ended, Trap, if_none_left, run_of, steps_in, ranges_in, steps_run, body_of, act_run}

-- more answered calls behind those of a state
abbrev extended : List Answered → State → State
extended more state = record state { left = state.left ++ more }

abbrev outcome : List Answered → Outcome → Outcome
outcome more (Goes state) = Goes (extended more state)
outcome more (Traps kind left) = Traps kind (left ++ more)
outcome more (Asks function arguments) = Asks function arguments
outcome more Strays = Strays

abbrev IsSettled : Outcome → Type 0
IsSettled (Goes state) = Unit {0}
IsSettled (Traps kind left) = Unit {0}
IsSettled (Asks function arguments) = ⊥
IsSettled Strays = Unit {0}

-- what doesn't ask comes to the same with more answered calls
abbrev Keeps : List Answered → Outcome → Outcome → Type 0
Keeps more one other = IsSettled one → other ≡ outcome more one

then_keeps : (more : List Answered) (one other : Outcome) (go : State → Outcome) → Keeps more one other
    → ((state : State) → Keeps more (go state) (go (extended more state))) → Keeps more (then_do one go) (then_do other go)
then_keeps more (Goes state) other go first next settled = subst (λ o. then_do o go ≡ outcome more (go state)) (sym (first tt)) (next state settled)
then_keeps more (Traps kind left) other go first next settled = subst (λ o. then_do o go ≡ Traps kind (left ++ more)) (sym (first tt)) refl
then_keeps more (Asks function arguments) other go first next settled = absurd settled
then_keeps more Strays other go first next settled = subst (λ o. then_do o go ≡ Strays) (sym (first tt)) refl

by_test : (more : List Answered) (test : Bool) (one two other another : Outcome) → Keeps more one other → Keeps more two another
    → Keeps more (if test then one else two) (if test then other else another)
by_test more true one two other another first second settled = first settled
by_test more false one two other another first second settled = second settled

tick_keeps : (more : List Answered) (state : State) → Keeps more (tick state) (tick (extended more state))
tick_keeps more state = by_test more (nat_lt state.count most_counts) _ _ _ _ (λ h. refl) (λ h. refl)

value_keeps : (more : List Answered) (state : State) (v : Option ℤ) (go next : ℤ → Outcome) → ((z : ℤ) → Keeps more (go z) (next z))
    → Keeps more (with_value state v go) (with_value (extended more state) v next)
value_keeps more state None go next each settled = refl
value_keeps more state (Some z) go next each settled = each z settled

within_keeps : (more : List Answered) (state : State) (range : Span) (v : ℤ) (go next : Outcome) → Keeps more go next
    → Keeps more (within state range v go) (within (extended more state) range v next)
within_keeps more state range v go next each = by_test more (int_le range.low v && int_le v range.high) _ _ _ _ each (λ h. refl)

arguments_keep : (more : List Answered) (p : Place) (state : State) (ks : List ConstraintTree) (ranges : List Span) (known : List ℤ) (go next : List ℤ → Outcome)
    → ((values : List ℤ) → Keeps more (go values) (next values)) → Keeps more (with_arguments p state ks ranges known go) (with_arguments p (extended more state) ks ranges known next)
arguments_keep more p state [] ranges known go next each = each known
arguments_keep more p state (k ∷ ks) [] known go next each = λ h. refl
arguments_keep more p state (k ∷ ks) (range ∷ ranges) known go next each =
    value_keeps more state (value_now p state k) _ _ (λ v. within_keeps more state range v _ _ (arguments_keep more p state ks ranges (known ++ v ∷ []) go next each))

answer_keeps : (more : List Answered) (state : State) (function : ℕ) (arguments : List ℤ) (left : List Answered) (go : ℤ → State → Outcome)
    → ((v : ℤ) (next : State) → Keeps more (go v next) (go v (extended more next)))
    → Keeps more (answered state function arguments left go) (answered (extended more state) function arguments (left ++ more) go)
answer_keeps more state function arguments [] go each = λ settled. absurd settled
answer_keeps more state function arguments (c ∷ left) go each =
    by_test more (nat_eq c.function function && pointwise int_eq c.arguments arguments) _ _ _ _ (each c.answer (record state { left = left })) (λ h. refl)

tested_keeps : (more : List Answered) (range : Option Span) (v : ℤ) (state : State) (go next : Outcome) → Keeps more go next
    → Keeps more (tested range v state go) (tested range v (extended more state) next)
tested_keeps more None v state go next each = each
tested_keeps more (Some range) v state go next each = within_keeps more state range v go next each

call_of_keeps : (more : List Answered) (p : Place) (state : State) (number : ℕ) (function : Option FunctionTree) (ks : List ConstraintTree) (go : ℤ → State → Outcome)
    → ((v : ℤ) (next : State) → Keeps more (go v next) (go v (extended more next)))
    → Keeps more (call_of p state number function ks go) (call_of p (extended more state) number function ks go)
call_of_keeps more p state number None ks go each = λ h. refl
call_of_keeps more p state number (Some function) ks go each =
    arguments_keep more p state ks function.parameters [] _ _
    (λ values. answer_keeps more state number values state.left _ (λ v next. tested_keeps more function.answer v next _ _ (each v next)))

source_keeps : (more : List Answered) (p : Place) (state : State) (from : SourceTree) (go : ℤ → State → Outcome)
    → ((v : ℤ) (next : State) → Keeps more (go v next) (go v (extended more next)))
    → Keeps more (source p state from go) (source p (extended more state) from go)
source_keeps more p state (Value k) go each = value_keeps more state (value_now p state k) _ _ (λ v. each v state)
source_keeps more p state (Answer function ks) go each = call_of_keeps more p state function _ ks go each

written_keeps : (more : List Answered) (local : ℕ) (range : Span) (v : ℤ) (state : State) → Keeps more (stored local range v state) (stored local range v (extended more state))
written_keeps more local range v state = within_keeps more state range v _ _ (λ h. refl)

declared_keeps : (more : List Answered) (p : Place) (state : State) (local : ℕ) (range : Span) (from : Option SourceTree)
    → Keeps more (started p state local range from) (started p (extended more state) local range from)
declared_keeps more p state local range None = λ h. refl
declared_keeps more p state local range (Some from) = source_keeps more p state from _ (λ v next. written_keeps more local range v next)

assigned_keeps : (more : List Answered) (p : Place) (state : State) (local : ℕ) (range : Option Span) (from : SourceTree)
    → Keeps more (assigned p state local range from) (assigned p (extended more state) local range from)
assigned_keeps more p state local None from = λ h. refl
assigned_keeps more p state local (Some range) from = source_keeps more p state from _ (λ v next. written_keeps more local range v next)

turns_keep : (more : List Answered) (turn : ℕ → State → Outcome) → ((index : ℕ) (state : State) → Keeps more (turn index state) (turn index (extended more state)))
    → (index n : ℕ) (state : State) → Keeps more (run_turns turn index n state) (run_turns turn index n (extended more state))
turns_keep more turn each index zero state = λ h. refl
turns_keep more turn each index (suc n) state =
    then_keeps more _ _ _ (tick_keeps more state) (λ begun. then_keeps more _ _ _ (each index begun) (turns_keep more turn each (index + 1) n))

counted_keeps : (more : List Answered) (turn : ℕ → State → Outcome) → ((index : ℕ) (state : State) → Keeps more (turn index state) (turn index (extended more state)))
    → (state : State) (v : ℤ) → Keeps more (counted turn state v) (counted turn (extended more state) v)
counted_keeps more turn each state (pos n) = turns_keep more turn each 0 n state
counted_keeps more turn each state (negsuc n) = λ h. refl

mutual
  step_keeps : (more : List Answered) (p : Place) (step : BodyStepTree) (state : State) → Keeps more (run_step p step state) (run_step p step (extended more state))
  step_keeps more p (Declare local range from) state = then_keeps more _ _ _ (tick_keeps more state) (λ begun. declared_keeps more p begun local range from)
  step_keeps more p (Assign local from) state = then_keeps more _ _ _ (tick_keeps more state) (λ begun. assigned_keeps more p begun local (slice_get p.ranges local) from)
  step_keeps more p (Call function ks) state = then_keeps more _ _ _ (tick_keeps more state) (λ begun. call_of_keeps more p begun function _ ks _ (λ v next h. refl))
  step_keeps more p (If condition holds fails) state =
      then_keeps more _ _ _ (tick_keeps more state)
      (λ begun. value_keeps more begun (value_now p begun condition) _ _ (λ v. by_test more (is_false v) _ _ _ _ (row_keeps more p fails begun) (row_keeps more p holds begun)))
  step_keeps more p (Repeat count body) state =
      then_keeps more _ _ _ (tick_keeps more state)
      (λ begun. value_keeps more begun (value_now p begun count) _ _ (counted_keeps more _ (λ index. row_keeps more (turned p index) body) begun))

  row_keeps : (more : List Answered) (p : Place) (row : BodyRow) (state : State) → Keeps more (run_row p row state) (run_row p row (extended more state))
  row_keeps more p NoBody state = λ h. refl
  row_keeps more p (MoreBody step steps) state = then_keeps more _ _ _ (step_keeps more p step state) (row_keeps more p steps)

steps_keep : (more : List Answered) (p : Place) (steps : List BodyStepTree) (state : State) → Keeps more (run_steps p steps state) (run_steps p steps (extended more state))
steps_keep more p [] state = λ h. refl
steps_keep more p (step ∷ steps) state = then_keeps more _ _ _ (step_keeps more p step state) (steps_keep more p steps)

-- ---- whole bodies

abbrev IsNothing : {A : Type 0} → Option A → Type 0
IsNothing None = Unit {0}
IsNothing (Some x) = ⊥

nothing_is_some : {A : Type 0} {x : A} → None ≡ Some x → ⊥
nothing_is_some same = subst IsNothing same tt

-- where no call is left, and with more of them none either, there are no more
none_more : (left more : List Answered) (run first other second : BodyRun) → if_none_left left run ≡ Some first → if_none_left (left ++ more) other ≡ Some second → more ≡ []
none_more [] [] run first other second one two = refl
none_more [] (c ∷ more) run first other second one two = absurd (nothing_is_some two)
none_more (c ∷ left) more run first other second one two = absurd (nothing_is_some one)

abbrev is_over_or : Option BodyRun → Type 0
is_over_or None = Unit {0}
is_over_or (Some run) = IsOver run

ends : (more : List Answered) (one other : Outcome) (run second : BodyRun) → Keeps more one other → run_of one ≡ Some run → IsOver run → run_of other ≡ Some second → more ≡ []
ends more (Goes state) other run second keeps is over two =
    none_more state.left more Ended run Ended second is (subst (λ o. run_of o ≡ Some second) (keeps tt) two)
ends more (Traps kind left) other run second keeps is over two =
    none_more left more (Trap kind) run (Trap kind) second is (subst (λ o. run_of o ≡ Some second) (keeps tt) two)
ends more (Asks function arguments) other run second keeps is over two = absurd (subst is_over_or (sym is) over)
ends more Strays other run second keeps is over two = absurd (nothing_is_some is)

-- the run of a body of that type
abbrev pub run_by : ModelTree → Scenario → ℕ → Act → List Answered → Option ActionTree → Option BodyRun
run_by m s a act calls type = option_and_then (λ t. body_of m s calls a act (steps_in t.content)) type

by_steps : (m : ModelTree) (s : Scenario) (a : ℕ) (act : Act) (calls more : List Answered) (steps : List BodyStepTree) (ranges : List Span) (run second : BodyRun)
    → steps_run m s calls a act steps ranges ≡ Some run → IsOver run → steps_run m s (calls ++ more) a act steps ranges ≡ Some second → more ≡ []
by_steps m s a act calls more steps ranges run second is over two =
    ends more _ _ run second
    (steps_keep more (record { ranges = ranges; model = m; scenario = s; number = a; act = act; indices = [] }) steps (record { locals = map (λ range. pos 0) ranges; count = 0; left = calls })) is over two

by_type : (m : ModelTree) (s : Scenario) (a : ℕ) (act : Act) (calls more : List Answered) (type : Option ActionTree) (run second : BodyRun)
    → run_by m s a act calls type ≡ Some run → IsOver run → run_by m s a act (calls ++ more) type ≡ Some second → more ≡ []
by_type m s a act calls more None run second is over two = absurd (nothing_is_some is)
by_type m s a act calls more (Some type) run second is over two =
    by_steps m s a act calls more (steps_in type.content) (flat_map ranges_in (steps_in type.content)) run second is over two

by_act : (m : ModelTree) (s : Scenario) (a : ℕ) (calls more : List Answered) (act : Option Act) (run second : BodyRun)
    → option_and_then (act_run m s calls a) act ≡ Some run → IsOver run → option_and_then (act_run m s (calls ++ more) a) act ≡ Some second → more ≡ []
by_act m s a calls more None run second is over two = absurd (nothing_is_some is)
by_act m s a calls more (Some act) run second is over two = by_type m s a act calls more (type_of m act.action) run second is over two

pub bodies_end : BodiesEndOnce
bodies_end m s a calls more run second is over two = by_act m s a calls more (slice_get s.actions a) run second is over two
