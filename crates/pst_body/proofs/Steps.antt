-- Steps, one after another.
use Rattle.std.proofs.Common.{◌≡◌, ◌<◌, ◌≤◌, ◌+◌, ◌-◌, ℕ, zero, suc, ℤ, pos, List, [], ◌∷◌, map, length, drop, get_or, slice_get, slice_set, Bool, true, false, cond, nat_lt, Option, Some, None, Result, Ok, Err, All, refl, ap, subst, sym, ◌∙◌, arith}
use Rattle.std.proofs.lemmas.List.{length-map, get_or-map}
use Rattle.std.proofs.lemmas.List.Elements.{All-get_or}
use Rattle.std.specs.Global.{Vec}
use Rattle.pst_expr.specs.declared.ranges.Span.{Span}
use Rattle.pst_expr.specs.Value.{is_false}
use Rattle.pst_target.specs.declared.call.Call.{Call as Answered}
use Rattle.pst_model.specs.declared.constraint.Constraint.{Constraint}
use Rattle.pst_model.specs.declared.body.BodyStep.{BodyStep}
use Rattle.pst_model.specs.declared.body.BodyStep.TheVariants as the_body
use Rattle.pst_model.specs.ConstraintTree.{ConstraintTree, view_constraint}
use Rattle.pst_model.specs.ModelTree.{ModelTree}
use Rattle.pst_model.specs.ModelView.{view_body_step}
use Rattle.pst_model.specs.BodyTree.{SourceTree, BodyStepTree, Declare, Assign, Call, If, Repeat, BodyRow}
use Rattle.pst_legal.specs.Body.{State, Outcome, Goes, Traps, then_do, tick, most_counts, Place, with_value, within, call, source, stored, started, assigned, run_turns, counted, turned, run_step, run_row, run_steps}
use Rattle.pst_body.specs.declared.ending.BodyEnd.{BodyEnd}
use Rattle.pst_body.specs.declared.ending.BodyEnd.TheVariants.{Fault, Trap, NoMemory}
use Rattle.pst_body.specs.Stores.{Store, state_of}
use Rattle.pst_body.specs.Doing.{Gave, goes_on, DidTo}
use Rattle.pst_body.specs.Ready.{CanEvaluate, CanRun}
use Rattle.pst_body.specs.Steps.{dropped, begun, turns_of, Stored, Decided, Counted}
use Rattle.pst_body.proofs.Coming.{did_then, did_stop, did_as, did_do, did_value, did_trap, gave_to}
use Rattle.pst_body.proofs.Rows.{row, if_is, repeat_is, drop_read, can_row, run_row_is, same_turns}

-- ---- locals

pub stored_done : {U : Type 0} (u : U) (local : ℕ) (range : Span) (v : ℤ) (old new : Store) → ((state : State) (go : Outcome) → within state range v go ≡ go) → new ≡ record old { locals = slice_set old.locals local v } → Stored local range v old new (Ok u)
stored_done u local range v old new inside is =
    subst (λ (s : Store). Stored local range v old s (Ok u)) (sym is) (refl, λ left. inside (state_of old left) (Goes (state_of (record old { locals = slice_set old.locals local v }) left)))

pub stored_outside : (U : Type 0) (local : ℕ) (range : Span) (v : ℤ) (old : Store) (end : BodyEnd) → (end ≡ Trap 2) × ((state : State) (go : Outcome) → within state range v go ≡ Traps 2 state.left) → Stored {A = U} local range v old old (Err end)
stored_outside U local range v old end traps =
    subst (λ (e : BodyEnd). Stored {A = U} local range v old old (Err e)) (sym traps.0) (refl, λ left. traps.1 (state_of old left) (Goes (state_of (record old { locals = slice_set old.locals local v }) left)))

store_did : {U : Type 0} (local : ℕ) (range : Span) (v : ℤ) (old new : Store) (calls : Option (List Answered)) (f : ℕ) (result : Result U BodyEnd) → Stored local range v old new result → DidTo (stored local range v) goes_on old new calls calls f f result
store_did local range v old new calls f (Ok u) is = did_value (stored local range v) goes_on u refl (ap (λ (s : Store). s.calls) is.0) (let e = ap (λ (s : Store). s.count) is.0 in omega (arith, e)) (ap (λ (s : Store). s.room) is.0) is.1
store_did local range v old new calls f (Err (Trap kind)) is = did_trap (stored local range v) goes_on kind refl (ap (λ (s : Store). s.calls) is.0) (let e = ap (λ (s : Store). s.count) is.0 in omega (arith, e)) (ap (λ (s : Store). s.room) is.0) is.1
store_did local range v old new calls f (Err (Fault call)) is = absurd is
store_did local range v old new calls f (Err NoMemory) is = absurd is

module _ (p : Place) (from : SourceTree) (local : ℕ) (range : Span) where
  pub set_stopped : {U : Type 0} (old new : Store) (before after : Option (List Answered)) (f g : ℕ) (end : BodyEnd) → Gave (λ go state. source p state from go) old new before after f g (Err end)
      → DidTo {A = U} (λ state. source p state from (stored local range)) goes_on old new before after f g (Err end)
  set_stopped old new before after f g end gave = did_stop (λ state. source p state from (stored local range)) (stored local range) goes_on end (gave_to (λ go state. source p state from go) (stored local range) (Err end) gave)

  pub set_did : {U : Type 0} (old mid new : Store) (before after : Option (List Answered)) (f g : ℕ) (v : ℤ) (result : Result U BodyEnd) → Gave (λ go state. source p state from go) old mid before after f g (Ok v) → Stored local range v mid new result
      → DidTo (λ state. source p state from (stored local range)) goes_on old new before after f g result
  set_did old mid new before after f g v result gave is =
      did_then (λ state. source p state from (stored local range)) (stored local range) v goes_on result (gave_to (λ go state. source p state from go) (stored local range) (Ok v) gave) (store_did local range v mid new after g result is)

  pub assign_did : {U : Type 0} (old new : Store) (before after : Option (List Answered)) (f g : ℕ) (result : Result U BodyEnd) → slice_get p.ranges local ≡ Some range
      → DidTo (λ state. source p state from (stored local range)) goes_on old new before after f g result → DidTo (λ state. assigned p state local (slice_get p.ranges local) from) goes_on old new before after f g result
  assign_did old new before after f g result is did =
      did_as (λ state. assigned p state local (slice_get p.ranges local) from) (λ state. source p state from (stored local range)) goes_on result (λ state. ap (λ (r : Option Span). assigned p state local r from) is) did

pub started_zero : {U : Type 0} (u : U) (p : Place) (local : ℕ) (range : Span) (old new : Store) (calls : Option (List Answered)) (f : ℕ) → new ≡ record old { locals = slice_set old.locals local (pos 0) }
    → DidTo (λ state. started p state local range None) goes_on old new calls calls f f (Ok u)
started_zero u p local range old new calls f is =
    subst (λ (s : Store). DidTo (λ state. started p state local range None) goes_on old s calls calls f f (Ok u)) (sym is)
    (did_value (λ state. started p state local range None) goes_on u refl refl (omega arith) refl (λ left. refl))

-- ---- calls

pub drop_stopped : {U : Type 0} (p : Place) (function : ℕ) (ks : List ConstraintTree) (old new : Store) (before after : Option (List Answered)) (f g : ℕ) (end : BodyEnd) → Gave (λ go state. call p state function ks go) old new before after f g (Err end)
    → DidTo {A = U} (λ state. call p state function ks dropped) goes_on old new before after f g (Err end)
drop_stopped p function ks old new before after f g end gave = did_stop (λ state. call p state function ks dropped) dropped goes_on end (gave_to (λ go state. call p state function ks go) dropped (Err end) gave)

pub drop_done : {U : Type 0} (u : U) (p : Place) (function : ℕ) (ks : List ConstraintTree) (old new : Store) (before after : Option (List Answered)) (f g : ℕ) (v : ℤ) → Gave (λ go state. call p state function ks go) old new before after f g (Ok v)
    → DidTo (λ state. call p state function ks dropped) goes_on old new before after f g (Ok u)
drop_done u p function ks old new before after f g v gave = record { list = gave.list; made = gave.made; faults = gave.faults; came = gave.came dropped }

-- ---- the count of statements and turns

abbrev Ticked : Store → Store → Type 0
Ticked old mid = (old.count < most_counts) × (mid ≡ record old { count = old.count + 1 }) × (mid.calls < mid.count)

abbrev Unticked : BodyEnd → Store → Store → Type 0
Unticked end old mid = (end ≡ Trap 3) × (most_counts ≤ old.count) × (mid ≡ old)

tick_did : (old mid : Store) (calls : Option (List Answered)) (f : ℕ) → Ticked old mid → DidTo {A = Unit {0}} tick goes_on old mid calls calls f f (Ok tt)
tick_did old mid calls f ticked =
    let below : nat_lt old.count most_counts ≡ true = let b = ticked.0 in grind (arith, b) in
    subst (λ (s : Store). DidTo {A = Unit {0}} tick goes_on old s calls calls f f (Ok tt)) (sym ticked.1)
    (did_value tick goes_on tt refl refl (omega arith) refl (λ left. ap (λ (b : Bool). cond b (Goes (state_of (record old { count = old.count + 1 }) left)) (Traps 3 left)) below))

untick_did : {U : Type 0} (old mid : Store) (calls : Option (List Answered)) (f : ℕ) (end : BodyEnd) → Unticked end old mid → DidTo {A = U} tick goes_on old mid calls calls f f (Err end)
untick_did {U} old mid calls f end unticked =
    let above : nat_lt old.count most_counts ≡ false = let b = unticked.1 in grind (arith, b) in
    subst (λ (e : BodyEnd). DidTo {A = U} tick goes_on old mid calls calls f f (Err e)) (sym unticked.0)
    (subst (λ (s : Store). DidTo {A = U} tick goes_on old s calls calls f f (Err (Trap 3))) (sym unticked.2)
    (did_trap tick goes_on 3 refl refl (omega arith) refl (λ left. ap (λ (b : Bool). cond b (Goes (state_of (record old { count = old.count + 1 }) left)) (Traps 3 left)) above)))

step_is : (p : Place) (s : BodyStepTree) (state : State) → run_step p s state ≡ then_do (tick state) (begun p s)
step_is p (Declare local range from) state = refl
step_is p (Assign local from) state = refl
step_is p (Call function arguments) state = refl
step_is p (If condition holds fails) state = refl
step_is p (Repeat count body) state = refl

pub step_unticked : {U : Type 0} (p : Place) (s : BodyStepTree) (old mid : Store) (calls : Option (List Answered)) (f : ℕ) (end : BodyEnd) → Unticked end old mid → DidTo {A = U} (run_step p s) goes_on old mid calls calls f f (Err end)
step_unticked {U} p s old mid calls f end unticked =
    did_as (run_step p s) (λ state. then_do (tick state) (begun p s)) goes_on (Err end) (step_is p s)
    (did_stop (λ state. then_do (tick state) (begun p s)) (λ (v : U). begun p s) goes_on end (did_do tick (begun p s) (Err end) (untick_did old mid calls f end unticked)))

pub step_did : {U : Type 0} (p : Place) (s : BodyStepTree) (old mid new : Store) (before after : Option (List Answered)) (f g : ℕ) (result : Result U BodyEnd) → Ticked old mid
    → DidTo (begun p s) goes_on mid new before after f g result → DidTo (run_step p s) goes_on old new before after f g result
step_did p s old mid new before after f g result ticked did =
    did_as (run_step p s) (λ state. then_do (tick state) (begun p s)) goes_on result (step_is p s)
    (did_then (λ state. then_do (tick state) (begun p s)) (λ (v : Unit {0}). begun p s) tt goes_on result (did_do tick (begun p s) (Ok tt) (tick_did old mid before f ticked)) did)

pub can_after : (m : ModelTree) (locals : ℕ) (old mid : Store) (s : BodyStepTree) → Ticked old mid → CanRun m locals old.room s → CanRun m locals mid.room s
can_after m locals old mid s ticked can = subst (λ (n : ℕ). CanRun m locals n s) (sym (ap (λ (t : Store). t.room) ticked.1)) can

-- ---- steps with parts

pub can_if : (m : ModelTree) (locals room : ℕ) (condition : Constraint) (holds fails : Vec BodyStep) → CanRun m locals room (view_body_step (the_body.If condition holds fails))
    → CanEvaluate room (view_constraint condition) × All (CanRun m locals room) (map view_body_step holds.items) × All (CanRun m locals room) (map view_body_step fails.items)
can_if m locals room condition holds fails can =
    let parts = subst (CanRun m locals room) (if_is condition holds fails) can in
    (parts.0, can_row m locals room (map view_body_step holds.items) parts.1, can_row m locals room (map view_body_step fails.items) parts.2)

pub can_repeat : (m : ModelTree) (locals room : ℕ) (count : Constraint) (body : Vec BodyStep) → CanRun m locals room (view_body_step (the_body.Repeat count body))
    → CanEvaluate room (view_constraint count) × All (CanRun m locals room) (map view_body_step body.items)
can_repeat m locals room count body can =
    let parts = subst (CanRun m locals room) (repeat_is count body) can in
    (parts.0, can_row m locals room (map view_body_step body.items) parts.1)

-- the condition has no value
pub if_undecided : {U : Type 0} (p : Place) (condition : Constraint) (holds fails : Vec BodyStep) (old new : Store) (calls : Option (List Answered)) (f : ℕ) (end : BodyEnd) → Decided p (view_constraint condition) old (Err end) → new ≡ old
    → DidTo {A = U} (begun p (view_body_step (the_body.If condition holds fails))) goes_on old new calls calls f f (Err end)
if_undecided p condition holds fails old new calls f (Fault call) known same = absurd known
if_undecided p condition holds fails old new calls f NoMemory known same = absurd known
if_undecided {U} p condition holds fails old new calls f (Trap kind) known same =
    subst (λ (t : BodyStepTree). DidTo {A = U} (begun p t) goes_on old new calls calls f f (Err (Trap kind))) (sym (if_is condition holds fails))
    (subst (λ (s : Store). DidTo {A = U} (begun p (If (view_constraint condition) (row holds) (row fails))) goes_on old s calls calls f f (Err (Trap kind))) (sym same)
    (subst (λ (k : ℕ). DidTo {A = U} (begun p (If (view_constraint condition) (row holds) (row fails))) goes_on old old calls calls f f (Err (Trap k))) (sym known.1)
    (did_trap (begun p (If (view_constraint condition) (row holds) (row fails))) goes_on 1 refl refl (omega arith) refl
    (λ left. ap (λ (v : Option ℤ). with_value (state_of old left) v (λ w. cond (is_false w) (run_row p (row fails) (state_of old left)) (run_row p (row holds) (state_of old left)))) known.0))))

abbrev choosing : Place → BodyRow → BodyRow → ℤ → State → Outcome
choosing p holds fails v state = cond (is_false v) (run_row p fails state) (run_row p holds state)

pub if_did : {U : Type 0} (p : Place) (condition : Constraint) (holds fails : Vec BodyStep) (b : Bool) (old mid new : Store) (before after : Option (List Answered)) (f g : ℕ) (result : Result U BodyEnd)
    → Decided p (view_constraint condition) old (Ok b) → mid ≡ old → DidTo (run_steps p (map view_body_step (cond b fails holds).items)) goes_on mid new before after f g result
    → DidTo (begun p (view_body_step (the_body.If condition holds fails))) goes_on old new before after f g result
if_did {U} p condition holds fails b old mid new before after f g result known same did =
    subst (λ (t : BodyStepTree). DidTo (begun p t) goes_on old new before after f g result) (sym (if_is condition holds fails))
    (did_then (begun p (If (view_constraint condition) (row holds) (row fails))) (choosing p (row holds) (row fails)) known.0 goes_on result
    (did_value (begun p (If (view_constraint condition) (row holds) (row fails))) (choosing p (row holds) (row fails)) known.0 {old = old} {new = old} {calls = before} {f = f} refl refl (omega arith) refl
    (λ left. ap (λ (v : Option ℤ). with_value (state_of old left) v (λ w. choosing p (row holds) (row fails) w (state_of old left))) known.1))
    (did_as (choosing p (row holds) (row fails) known.0) (run_steps p (map view_body_step (cond b fails holds).items)) goes_on result
    (λ state. ap (λ (c : Bool). cond c (run_row p (row fails) state) (run_row p (row holds) state)) known.2 ∙ at b state)
    (subst (λ (s : Store). DidTo (run_steps p (map view_body_step (cond b fails holds).items)) goes_on s new before after f g result) same did)))
  where
    at : (c : Bool) (state : State) → cond c (run_row p (row fails) state) (run_row p (row holds) state) ≡ run_steps p (map view_body_step (cond c fails holds).items) state
    at true state = run_row_is p (map view_body_step fails.items) state
    at false state = run_row_is p (map view_body_step holds.items) state

pub repeat_uncounted : {U : Type 0} (p : Place) (count : Constraint) (body : Vec BodyStep) (old new : Store) (calls : Option (List Answered)) (f : ℕ) (end : BodyEnd) → Counted p (view_constraint count) old (Err end) → new ≡ old
    → DidTo {A = U} (begun p (view_body_step (the_body.Repeat count body))) goes_on old new calls calls f f (Err end)
repeat_uncounted p count body old new calls f (Fault call) known same = absurd known
repeat_uncounted p count body old new calls f NoMemory known same = absurd known
repeat_uncounted {U} p count body old new calls f (Trap kind) known same =
    subst (λ (t : BodyStepTree). DidTo {A = U} (begun p t) goes_on old new calls calls f f (Err (Trap kind))) (sym (repeat_is count body))
    (subst (λ (s : Store). DidTo {A = U} (begun p (Repeat (view_constraint count) (row body))) goes_on old s calls calls f f (Err (Trap kind))) (sym same)
    (subst (λ (k : ℕ). DidTo {A = U} (begun p (Repeat (view_constraint count) (row body))) goes_on old old calls calls f f (Err (Trap k))) (sym known.1)
    (did_trap (begun p (Repeat (view_constraint count) (row body))) goes_on 1 refl refl (omega arith) refl
    (λ left. known.0 left (λ index. run_row (turned p index) (row body))))))

pub repeat_did : {U : Type 0} (p : Place) (count : Constraint) (body : Vec BodyStep) (n : ℕ) (old mid new : Store) (before after : Option (List Answered)) (f g : ℕ) (result : Result U BodyEnd)
    → Counted p (view_constraint count) old (Ok n) → mid ≡ old → DidTo (turns_of p (map view_body_step body.items) 0 n) goes_on mid new before after f g result
    → DidTo (begun p (view_body_step (the_body.Repeat count body))) goes_on old new before after f g result
repeat_did {U} p count body n old mid new before after f g result known same did =
    subst (λ (t : BodyStepTree). DidTo (begun p t) goes_on old new before after f g result) (sym (repeat_is count body))
    (did_then (begun p (Repeat (view_constraint count) (row body))) (λ (m : ℕ). run_turns (λ index. run_row (turned p index) (row body)) 0 m) n goes_on result
    (did_value (begun p (Repeat (view_constraint count) (row body))) (λ (m : ℕ). run_turns (λ index. run_row (turned p index) (row body)) 0 m) n {old = old} {new = old} {calls = before} {f = f} refl refl (omega arith) refl
    (λ left. ap (λ (v : Option ℤ). with_value (state_of old left) v (counted (λ index. run_row (turned p index) (row body)) (state_of old left))) known))
    (did_as (run_turns (λ index. run_row (turned p index) (row body)) 0 n) (turns_of p (map view_body_step body.items) 0 n) goes_on result
    (same_turns (λ index. run_row (turned p index) (row body)) (λ index. run_steps (turned p index) (map view_body_step body.items)) (λ index state. run_row_is (turned p index) (map view_body_step body.items) state) 0 n)
    (subst (λ (s : Store). DidTo (turns_of p (map view_body_step body.items) 0 n) goes_on s new before after f g result) same did)))

-- ---- loops

-- so many turns are left, the first of them of that number
abbrev pub Turning : Place → List BodyStepTree → ℕ → ℕ → ℕ → Store → Store → Option (List Answered) → Option (List Answered) → ℕ → ℕ → Type 0
Turning p body count index left old new before after f g = DidTo (turns_of p body 0 count) (λ (u : Unit {0}). turns_of p body index left) old new before after f g (Ok tt)

pub turning_begins : (p : Place) (body : List BodyStepTree) (count : ℕ) (old : Store) (calls : Option (List Answered)) (f : ℕ) → Turning p body count 0 count old old calls calls f f
turning_begins p body count old calls f = did_value (turns_of p body 0 count) (λ (u : Unit {0}). turns_of p body 0 count) tt refl refl (omega arith) refl (λ left. refl)

module _ (p : Place) (body : List BodyStepTree) (count index left : ℕ) (old mid : Store) (c0 c1 : Option (List Answered)) (f0 f1 : ℕ) (so_far : Turning p body count index (suc left) old mid c0 c1 f0 f1) where
  abbrev rest : State → Outcome
  rest = turns_of p body (index + 1) left

  abbrev one : State → Outcome
  one state = then_do (run_steps (turned p index) body state) rest

  pub turning_unticked : {U : Type 0} (new : Store) (end : BodyEnd) → Unticked end mid new → DidTo {A = U} (turns_of p body 0 count) goes_on old new c0 c1 f0 f1 (Err end)
  turning_unticked {U} new end unticked =
      did_then (turns_of p body 0 count) (λ (u : Unit {0}). turns_of p body index (suc left)) tt goes_on (Err end) so_far
      (did_stop (turns_of p body index (suc left)) (λ (u : U). one) goes_on end (did_do tick one (Err end) (untick_did mid new c1 f1 end unticked)))

  pub turning_stopped : {U : Type 0} (ticked new : Store) (c2 : Option (List Answered)) (f2 : ℕ) (end : BodyEnd) → Ticked mid ticked → DidTo {A = U} (run_steps (turned p index) body) goes_on ticked new c1 c2 f1 f2 (Err end)
      → DidTo {A = U} (turns_of p body 0 count) goes_on old new c0 c2 f0 f2 (Err end)
  turning_stopped {U} ticked new c2 f2 end tick_is did =
      did_then (turns_of p body 0 count) (λ (u : Unit {0}). turns_of p body index (suc left)) tt goes_on (Err end) so_far
      (did_then (turns_of p body index (suc left)) (λ (u : Unit {0}). one) tt goes_on (Err end) (did_do tick one (Ok tt) (tick_did mid ticked c1 f1 tick_is))
      (did_stop one (λ (u : U). rest) goes_on end (did_do (run_steps (turned p index) body) rest (Err end) did)))

  pub turning_next : (ticked new : Store) (c2 : Option (List Answered)) (f2 : ℕ) → Ticked mid ticked → DidTo {A = Unit {0}} (run_steps (turned p index) body) goes_on ticked new c1 c2 f1 f2 (Ok tt)
      → Turning p body count (index + 1) left old new c0 c2 f0 f2
  turning_next ticked new c2 f2 tick_is did =
      did_then (turns_of p body 0 count) (λ (u : Unit {0}). turns_of p body index (suc left)) tt (λ (u : Unit {0}). rest) (Ok tt) so_far
      (did_then (turns_of p body index (suc left)) (λ (u : Unit {0}). one) tt (λ (u : Unit {0}). rest) (Ok tt) (did_do tick one (Ok tt) (tick_did mid ticked c1 f1 tick_is))
      (did_do (run_steps (turned p index) body) rest (Ok tt) did))

-- none is left
pub turning_done : {U : Type 0} (u : U) (p : Place) (body : List BodyStepTree) (count index left : ℕ) (old new : Store) (before after : Option (List Answered)) (f g : ℕ) → left ≡ 0 → Turning p body count index left old new before after f g
    → DidTo (turns_of p body 0 count) goes_on old new before after f g (Ok u)
turning_done u p body count index left old new before after f g none so_far =
    let done = subst (λ (n : ℕ). Turning p body count index n old new before after f g) none so_far in
    record { list = done.list; made = done.made; faults = done.faults; came = done.came }

-- the steps from the i-th on are left
abbrev pub Stepping : Place → List BodyStep → ℕ → Store → Store → Option (List Answered) → Option (List Answered) → ℕ → ℕ → Type 0
Stepping p steps i old new before after f g = DidTo (run_steps p (map view_body_step steps)) (λ (u : Unit {0}). run_steps p (map view_body_step (drop i steps))) old new before after f g (Ok tt)

pub stepping_begins : (p : Place) (steps : List BodyStep) (old : Store) (calls : Option (List Answered)) (f : ℕ) → Stepping p steps 0 old old calls calls f f
stepping_begins p steps old calls f = did_value (run_steps p (map view_body_step steps)) (λ (u : Unit {0}). run_steps p (map view_body_step steps)) tt refl refl (omega arith) refl (λ left. refl)

module _ (p : Place) (steps : List BodyStep) (i : ℕ) (step : BodyStep) (within : i < length steps) (is : step ≡ get_or steps i step) (old mid : Store) (c0 c1 : Option (List Answered)) (f0 f1 : ℕ) (so_far : Stepping p steps i old mid c0 c1 f0 f1) where
  abbrev more : State → Outcome
  more = run_steps p (map view_body_step (drop (i + 1) steps))

  at_step : DidTo (run_steps p (map view_body_step steps)) (λ (u : Unit {0}) state. then_do (run_step p (view_body_step step) state) more) old mid c0 c1 f0 f1 (Ok tt)
  at_step = subst (λ (l : List BodyStep). DidTo (run_steps p (map view_body_step steps)) (λ (u : Unit {0}). run_steps p (map view_body_step l)) old mid c0 c1 f0 f1 (Ok tt)) (drop_read steps i step within is) so_far

  pub stepping_stopped : {U : Type 0} (new : Store) (c2 : Option (List Answered)) (f2 : ℕ) (end : BodyEnd) → DidTo {A = U} (run_step p (view_body_step step)) goes_on mid new c1 c2 f1 f2 (Err end)
      → DidTo {A = U} (run_steps p (map view_body_step steps)) goes_on old new c0 c2 f0 f2 (Err end)
  stepping_stopped {U} new c2 f2 end did =
      did_then (run_steps p (map view_body_step steps)) (λ (u : Unit {0}) state. then_do (run_step p (view_body_step step) state) more) tt goes_on (Err end) at_step
      (did_stop (λ state. then_do (run_step p (view_body_step step) state) more) (λ (u : U). more) goes_on end (did_do (run_step p (view_body_step step)) more (Err end) did))

  pub stepping_next : (new : Store) (c2 : Option (List Answered)) (f2 : ℕ) → DidTo {A = Unit {0}} (run_step p (view_body_step step)) goes_on mid new c1 c2 f1 f2 (Ok tt) → Stepping p steps (i + 1) old new c0 c2 f0 f2
  stepping_next new c2 f2 did =
      did_then (run_steps p (map view_body_step steps)) (λ (u : Unit {0}) state. then_do (run_step p (view_body_step step) state) more) tt (λ (u : Unit {0}). more) (Ok tt) at_step
      (did_do (run_step p (view_body_step step)) more (Ok tt) did)

drop_all : (steps : List BodyStep) (i : ℕ) → length steps ≤ i → drop i steps ≡ []
drop_all [] zero all = refl
drop_all [] (suc i) all = refl
drop_all (s ∷ steps) zero all = absurd (omega (arith, all))
drop_all (s ∷ steps) (suc i) all = drop_all steps i (omega (arith, all))

pub stepping_done : {U : Type 0} (u : U) (p : Place) (steps : List BodyStep) (i : ℕ) (old new : Store) (before after : Option (List Answered)) (f g : ℕ) → length steps ≤ i → Stepping p steps i old new before after f g
    → DidTo (run_steps p (map view_body_step steps)) goes_on old new before after f g (Ok u)
stepping_done u p steps i old new before after f g all so_far =
    let done = subst (λ (l : List BodyStep). DidTo (run_steps p (map view_body_step steps)) (λ (v : Unit {0}). run_steps p (map view_body_step l)) old new before after f g (Ok tt)) (drop_all steps i all) so_far in
    record { list = done.list; made = done.made; faults = done.faults; came = done.came }

-- ---- numbers and items

pub before_one : (n : ℕ) → 0 < n → (m : ℕ) × (n ≡ suc m)
before_one zero some = absurd (omega (arith, some))
before_one (suc n) some = (n, refl)

pub less_one : (n : ℕ) (some : 0 < n) → (before_one n some).0 ≡ n - 1
unfolding before_one
less_one zero some = absurd (omega (arith, some))
less_one (suc n) some = omega arith

pub all_drop_at : {X Y : Type 0} (P : Y → Type 0) (view : X → Y) (xs : List X) (i : ℕ) (x : X) → i < length xs → x ≡ get_or xs i x → All P (map view xs) → P (view x)
all_drop_at {X} {Y} P view xs i x within is all =
    subst P (get_or-map view xs i x (view x) within ∙ ap view (sym is)) (All-get_or P (map view xs) i (view x) (let many = length-map xs view in omega (arith, many, within)) all)
