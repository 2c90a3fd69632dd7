-- Each call of a body is one of a statement that has begun.
use Rattle.std.proofs.Common.{◌≡◌, ◌<◌, ◌≤◌, ℕ, zero, suc, ◌+◌, ℤ, pos, negsuc, int_le, List, [], ◌∷◌, ◌++◌, length, Bool, true, false, ◌&&◌, nat_eq, nat_lt, if◌then◌else◌, Option, Some, None, slice_get, map, refl, ap, subst, arith}
use Rattle.std.specs.List.{flat_map}
use Rattle.std.specs.Option.{option_and_then}
use Rattle.std.specs.Cmp.Lexicographic.{pointwise}
use Rattle.std.specs.Ordering.{int_eq}
use Rattle.std.proofs.lemmas.Bool.Decides.{nat_tests}
use Rattle.pst_expr.specs.declared.ranges.Span.{Span}
use Rattle.pst_expr.specs.Value.{is_false}
use Rattle.pst_target.specs.declared.call.Call.{Call as Answered}
use Rattle.pst_model.specs.ConstraintTree.{ConstraintTree}
use Rattle.pst_model.specs.BodyTree.{SourceTree, Value, Answer, BodyStepTree, Declare, Assign, Call, If, Repeat, BodyRow, NoBody, MoreBody}
use Rattle.pst_model.specs.ModelTree.{FunctionTree, ActionTree, ModelTree}
use Rattle.pst_scen.specs.declared.act.Act.{Act}
use Rattle.pst_scen.specs.declared.scenario.Scenario.{Scenario}
use Rattle.pst_legal.specs.Types.{type_of}
use Rattle.pst_legal.specs.Body.{State, Outcome, Goes, Traps, Asks, Strays, then_do, tick, most_counts, Place, value_now, with_value, within, with_arguments, answered, tested, call_of, source, stored, started, assigned, run_turns, counted, turned, run_step, run_row, run_steps, BodyRun, Ended, Trap, Wants, if_none_left, run_of, steps_in, ranges_in, steps_run, body_of, act_run}
use Rattle.pst_body_ends.specs.Ends.{IsShort, BodiesAreShort}

-- of so many answered calls no more were used than statements and turns have begun
record Fits (total : ℕ) (state : State) : Type 0 where
  calls : total ≤ length state.left + state.count
  count : state.count ≤ most_counts

-- and the last statement that began has used none
record HasRoom (total : ℕ) (state : State) : Type 0 where
  calls : total < length state.left + state.count
  count : state.count ≤ most_counts

fits : (total : ℕ) (state : State) → HasRoom total state → Fits total state
fits total state room = record { calls = omega (arith, room.calls); count = room.count }

abbrev IsFine : ℕ → Outcome → Type 0
IsFine total (Goes state) = Fits total state
IsFine total (Traps kind left) = (total ≤ length left + most_counts) × (1 ≤ kind) × (kind ≤ 3)
IsFine total (Asks function arguments) = total < most_counts
IsFine total Strays = Unit {0}

module _ (total : ℕ) where
  then_fine : (one : Outcome) (go : State → Outcome) → IsFine total one → ((state : State) → Fits total state → IsFine total (go state)) → IsFine total (then_do one go)
  then_fine (Goes state) go first next = next state first
  then_fine (Traps kind left) go first next = first
  then_fine (Asks function arguments) go first next = first
  then_fine Strays go first next = tt

  trap_fine : (state : State) (kind : ℕ) → 1 ≤ kind → kind ≤ 3 → Fits total state → IsFine total (Traps kind state.left)
  trap_fine state kind least most own = let few = own.calls in let small = own.count in (omega (arith, few, small), least, most)

  by_test : (test : Bool) (one two : Outcome) → IsFine total one → IsFine total two → IsFine total (if test then one else two)
  by_test true one two first second = first
  by_test false one two first second = second

  tick_fine : (state : State) (go : State → Outcome) → Fits total state → ((begun : State) → HasRoom total begun → IsFine total (go begun)) → IsFine total (then_do (tick state) go)
  tick_fine state go own next = by (nat_lt state.count most_counts) refl
    where
      by : (b : Bool) → nat_lt state.count most_counts ≡ b → IsFine total (then_do (if b then Goes (record state { count = state.count + 1 }) else Traps 3 state.left) go)
      by true is =
          let low : state.count < most_counts = grind (arith, nat_tests, is) in
          let few = own.calls in
          next (record state { count = state.count + 1 }) (record { calls = omega (arith, few); count = omega (arith, low) })
      by false is = trap_fine state 3 (omega arith) (omega arith) own

  value_fine : (state : State) (v : Option ℤ) (go : ℤ → Outcome) → Fits total state → ((z : ℤ) → IsFine total (go z)) → IsFine total (with_value state v go)
  value_fine state None go own each = trap_fine state 1 (omega arith) (omega arith) own
  value_fine state (Some z) go own each = each z

  within_fine : (state : State) (range : Span) (v : ℤ) (go : Outcome) → Fits total state → IsFine total go → IsFine total (within state range v go)
  within_fine state range v go own each = by_test (int_le range.low v && int_le v range.high) go (Traps 2 state.left) each (trap_fine state 2 (omega arith) (omega arith) own)

  arguments_fine : (p : Place) (state : State) (ks : List ConstraintTree) (ranges : List Span) (known : List ℤ) (go : List ℤ → Outcome) → Fits total state
      → ((values : List ℤ) → IsFine total (go values)) → IsFine total (with_arguments p state ks ranges known go)
  arguments_fine p state [] ranges known go own each = each known
  arguments_fine p state (k ∷ ks) [] known go own each = tt
  arguments_fine p state (k ∷ ks) (range ∷ ranges) known go own each =
      value_fine state (value_now p state k) _ own (λ v. within_fine state range v _ own (arguments_fine p state ks ranges (known ++ v ∷ []) go own each))

  answer_fine : (state : State) (function : ℕ) (arguments : List ℤ) (left : List Answered) (go : ℤ → State → Outcome) → total < length left + state.count → state.count ≤ most_counts
      → ((v : ℤ) (next : State) → Fits total next → IsFine total (go v next)) → IsFine total (answered state function arguments left go)
  answer_fine state function arguments [] go few small each = omega (arith, few, small)
  answer_fine state function arguments (c ∷ left) go few small each =
      by_test (nat_eq c.function function && pointwise int_eq c.arguments arguments) _ _
      (each c.answer (record state { left = left }) (record { calls = omega (arith, few); count = small })) tt

  tested_fine : (range : Option Span) (v : ℤ) (state : State) (go : Outcome) → Fits total state → IsFine total go → IsFine total (tested range v state go)
  tested_fine None v state go own each = each
  tested_fine (Some range) v state go own each = within_fine state range v go own each

  call_fine : (p : Place) (state : State) (number : ℕ) (function : Option FunctionTree) (ks : List ConstraintTree) (go : ℤ → State → Outcome) → HasRoom total state
      → ((v : ℤ) (next : State) → Fits total next → IsFine total (go v next)) → IsFine total (call_of p state number function ks go)
  call_fine p state number None ks go own each = tt
  call_fine p state number (Some function) ks go own each =
      arguments_fine p state ks function.parameters [] _ (fits total state own)
      (λ values. answer_fine state number values state.left _ own.calls own.count (λ v next kept. tested_fine function.answer v next _ kept (each v next kept)))

  source_fine : (p : Place) (state : State) (from : SourceTree) (go : ℤ → State → Outcome) → HasRoom total state
      → ((v : ℤ) (next : State) → Fits total next → IsFine total (go v next)) → IsFine total (source p state from go)
  source_fine p state (Value k) go own each = value_fine state (value_now p state k) _ (fits total state own) (λ v. each v state (fits total state own))
  source_fine p state (Answer function ks) go own each = call_fine p state function _ ks go own each

  stored_fine : (local : ℕ) (range : Span) (v : ℤ) (state : State) → Fits total state → IsFine total (stored local range v state)
  stored_fine local range v state own = within_fine state range v _ own (record { calls = own.calls; count = own.count })

  started_fine : (p : Place) (state : State) (local : ℕ) (range : Span) (from : Option SourceTree) → HasRoom total state → IsFine total (started p state local range from)
  started_fine p state local range None own = let few = own.calls in record { calls = omega (arith, few); count = own.count }
  started_fine p state local range (Some from) own = source_fine p state from _ own (λ v next kept. stored_fine local range v next kept)

  assigned_fine : (p : Place) (state : State) (local : ℕ) (range : Option Span) (from : SourceTree) → HasRoom total state → IsFine total (assigned p state local range from)
  assigned_fine p state local None from own = tt
  assigned_fine p state local (Some range) from own = source_fine p state from _ own (λ v next kept. stored_fine local range v next kept)

  turns_fine : (turn : ℕ → State → Outcome) → ((index : ℕ) (state : State) → Fits total state → IsFine total (turn index state))
      → (index n : ℕ) (state : State) → Fits total state → IsFine total (run_turns turn index n state)
  turns_fine turn each index zero state own = own
  turns_fine turn each index (suc n) state own =
      tick_fine state _ own (λ begun room. then_fine (turn index begun) _ (each index begun (fits total begun room)) (turns_fine turn each (index + 1) n))

  counted_fine : (turn : ℕ → State → Outcome) → ((index : ℕ) (state : State) → Fits total state → IsFine total (turn index state))
      → (state : State) (v : ℤ) → Fits total state → IsFine total (counted turn state v)
  counted_fine turn each state (pos n) own = turns_fine turn each 0 n state own
  counted_fine turn each state (negsuc n) own = trap_fine state 1 (omega arith) (omega arith) own

  mutual
    step_fine : (p : Place) (step : BodyStepTree) (state : State) → Fits total state → IsFine total (run_step p step state)
    step_fine p (Declare local range from) state own = tick_fine state _ own (λ begun room. started_fine p begun local range from room)
    step_fine p (Assign local from) state own = tick_fine state _ own (λ begun room. assigned_fine p begun local (slice_get p.ranges local) from room)
    step_fine p (Call function ks) state own = tick_fine state _ own (λ begun room. call_fine p begun function _ ks _ room (λ v next kept. kept))
    step_fine p (If condition holds fails) state own =
        tick_fine state _ own
        (λ begun room. value_fine begun (value_now p begun condition) _ (fits total begun room)
        (λ v. by_test (is_false v) _ _ (row_fine p fails begun (fits total begun room)) (row_fine p holds begun (fits total begun room))))
    step_fine p (Repeat count body) state own =
        tick_fine state _ own
        (λ begun room. value_fine begun (value_now p begun count) _ (fits total begun room)
        (λ v. counted_fine _ (λ index. row_fine (turned p index) body) begun v (fits total begun room)))

    row_fine : (p : Place) (row : BodyRow) (state : State) → Fits total state → IsFine total (run_row p row state)
    row_fine p NoBody state own = own
    row_fine p (MoreBody step steps) state own = then_fine (run_step p step state) _ (step_fine p step state own) (row_fine p steps)

  steps_fine : (p : Place) (steps : List BodyStepTree) (state : State) → Fits total state → IsFine total (run_steps p steps state)
  steps_fine p [] state own = own
  steps_fine p (step ∷ steps) state own = then_fine (run_step p step state) _ (step_fine p step state own) (steps_fine p steps)

  -- ---- whole bodies

  -- where no call is left
  none_left : (left : List Answered) (one run : BodyRun) → if_none_left left one ≡ Some run → (left ≡ [] → IsShort total one) → IsShort total run
  none_left [] one run is own = let same : one ≡ run = inside is in subst (IsShort total) same (own refl)
    where
      inside : {x y : BodyRun} → Some x ≡ Some y → x ≡ y
      inside e = cc
  none_left (c ∷ left) one run is own = absurd (nothing_is_some is)
    where
      nothing_is_some : {x : BodyRun} → None ≡ Some x → ⊥
      nothing_is_some e = absurd cc

  run_short : (o : Outcome) (run : BodyRun) → IsFine total o → run_of o ≡ Some run → IsShort total run
  run_short (Goes state) run own is = none_left state.left Ended run is (λ empty. let few = own.calls in let small = own.count in let none : length state.left ≡ 0 = ap (λ (l : List Answered). length l) empty in omega (arith, few, small, none))
  run_short (Traps kind left) run own is =
      none_left left (Trap kind) run is (λ empty. let few = own.0 in let none : length left ≡ 0 = ap (λ (l : List Answered). length l) empty in (omega (arith, few, none), own.1, own.2))
  run_short (Asks function arguments) run own is = let same : Wants function arguments ≡ run = inside is in subst (IsShort total) same own
    where
      inside : {x y : BodyRun} → Some x ≡ Some y → x ≡ y
      inside e = cc
  run_short Strays run own is = absurd (nothing_is_some is)
    where
      nothing_is_some : {x : BodyRun} → None ≡ Some x → ⊥
      nothing_is_some e = absurd cc

by_steps : (m : ModelTree) (s : Scenario) (a : ℕ) (act : Act) (calls : List Answered) (steps : List BodyStepTree) (ranges : List Span) (run : BodyRun)
    → steps_run m s calls a act steps ranges ≡ Some run → IsShort (length calls) run
by_steps m s a act calls steps ranges run is =
    run_short (length calls) _ run
    (steps_fine (length calls) (record { ranges = ranges; model = m; scenario = s; number = a; act = act; indices = [] }) steps (record { locals = map (λ range. pos 0) ranges; count = 0; left = calls })
    (record { calls = omega arith; count = omega arith })) is

by_type : (m : ModelTree) (s : Scenario) (a : ℕ) (act : Act) (calls : List Answered) (type : Option ActionTree) (run : BodyRun)
    → option_and_then (λ t. body_of m s calls a act (steps_in t.content)) type ≡ Some run → IsShort (length calls) run
by_type m s a act calls None run is = absurd cc
by_type m s a act calls (Some type) run is = by_steps m s a act calls (steps_in type.content) (flat_map ranges_in (steps_in type.content)) run is

by_act : (m : ModelTree) (s : Scenario) (a : ℕ) (calls : List Answered) (act : Option Act) (run : BodyRun)
    → option_and_then (act_run m s calls a) act ≡ Some run → IsShort (length calls) run
by_act m s a calls None run is = absurd cc
by_act m s a calls (Some act) run is = by_type m s a act calls (type_of m act.action) run is

pub bodies_short : BodiesAreShort
bodies_short m s a calls run is = by_act m s a calls (slice_get s.actions a) run is
