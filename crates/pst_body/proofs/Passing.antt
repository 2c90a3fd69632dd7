-- Arguments and calls.
use Rattle.std.proofs.Common.{◌≡◌, ◌<◌, ◌≤◌, ◌+◌, ℕ, zero, suc, ℤ, List, [], ◌∷◌, ◌++◌, map, length, drop, get_or, slice_get, Option, Some, None, Result, Ok, Err, MatchResult, All, refl, ap, subst, sym, ◌∙◌, arith}
use Rattle.std.proofs.lemmas.List.{length-append, length-map, get_or-map}
use Rattle.std.proofs.lemmas.List.Elements.{All-get_or}
use Rattle.std.proofs.lemmas.Option.{get_or_from_slice_get}
use Rattle.pst_expr.specs.declared.ranges.Span.{Span}
use Rattle.pst_target.specs.declared.call.Call.{Call as Answered}
use Rattle.pst_model.specs.declared.constraint.Constraint.{Constraint}
use Rattle.pst_model.specs.ConstraintTree.{ConstraintTree, view_constraint}
use Rattle.pst_model.specs.BodyTree.{Value}
use Rattle.pst_model.specs.ModelTree.{FunctionTree}
use Rattle.pst_legal.specs.Body.{State, Outcome, Traps, Place, value_now, with_value, within, with_arguments, answered, tested, call_of, call, source}
use Rattle.pst_body.specs.declared.ending.BodyEnd.{BodyEnd}
use Rattle.pst_body.specs.declared.ending.BodyEnd.TheVariants.{Fault, Trap, NoMemory}
use Rattle.pst_body.specs.Stores.{Store, state_of}
use Rattle.pst_body.specs.Doing.{Gave}
use Rattle.pst_body.specs.Ready.{CanEvaluate}
use Rattle.pst_body.specs.Passing.{PassedOn, Passed, PassedOne}
use Rattle.pst_body.proofs.Coming.{gave_then, gave_stop, gave_value, gave_trap, gave_as}
use Rattle.pst_body.proofs.Rows.{drop_read}

-- ---- one argument

pub can_at : (room now : ℕ) (ks : List Constraint) (i : ℕ) (k : Constraint) → i < length ks → k ≡ get_or ks i k → All (CanEvaluate room) (map view_constraint ks) → now ≡ room → CanEvaluate now (view_constraint k)
can_at room now ks i k within is all same =
    subst (λ (n : ℕ). CanEvaluate n (view_constraint k)) (sym same)
    (subst (CanEvaluate room) (get_or-map view_constraint ks i k (view_constraint k) within ∙ ap view_constraint (sym is))
    (All-get_or (CanEvaluate room) (map view_constraint ks) i (view_constraint k) (let many = length-map ks view_constraint in omega (arith, many, within)) all))

pub passed_no_value : (U : Type 0) (p : Place) (k : ConstraintTree) (range : Span) (old new : Store) (end : BodyEnd)
    → (value_now p (state_of old []) k ≡ None) × (end ≡ Trap 1) → new ≡ old → PassedOne {A = U} p k range old new (Err end)
passed_no_value U p k range old new end known same =
    subst (λ (e : BodyEnd). PassedOne {A = U} p k range old new (Err e)) (sym known.1)
    (subst (λ (s : Store). PassedOne {A = U} p k range old s (Err (Trap 1))) (sym same)
    (refl, λ left more ranges go. ap (λ (v : Option ℤ). with_value (state_of old left) v (λ w. within (state_of old left) range w (with_arguments p (state_of old left) more ranges (old.arguments ++ w ∷ []) go))) known.0))

pub passed_outside : (U : Type 0) (p : Place) (k : ConstraintTree) (range : Span) (old new : Store) (v : ℤ) (end : BodyEnd)
    → value_now p (state_of old []) k ≡ Some v → new ≡ old → (end ≡ Trap 2) × ((state : State) (go : Outcome) → within state range v go ≡ Traps 2 state.left) → PassedOne {A = U} p k range old new (Err end)
passed_outside U p k range old new v end known same traps =
    subst (λ (e : BodyEnd). PassedOne {A = U} p k range old new (Err e)) (sym traps.0)
    (subst (λ (s : Store). PassedOne {A = U} p k range old s (Err (Trap 2))) (sym same) (
      refl,
      λ left more ranges go.
          ap (λ (o : Option ℤ). with_value (state_of old left) o (λ w. within (state_of old left) range w (with_arguments p (state_of old left) more ranges (old.arguments ++ w ∷ []) go))) known
          ∙ traps.1 (state_of old left) (with_arguments p (state_of old left) more ranges (old.arguments ++ v ∷ []) go),
    ))

pub passed_one : {U : Type 0} (u : U) (p : Place) (k : ConstraintTree) (range : Span) (old new : Store) (v : ℤ)
    → value_now p (state_of old []) k ≡ Some v → ((state : State) (go : Outcome) → within state range v go ≡ go) → new ≡ record old { arguments = old.arguments ++ v ∷ [] } → PassedOne p k range old new (Ok u)
passed_one u p k range old new v known inside is =
    subst (λ (s : Store). PassedOne p k range old s (Ok u)) (sym is) (
      refl,
      length-append old.arguments (v ∷ []),
      λ left more ranges go.
          ap (λ (o : Option ℤ). with_value (state_of old left) o (λ w. within (state_of old left) range w (with_arguments p (state_of old left) more ranges (old.arguments ++ w ∷ []) go))) known
          ∙ inside (state_of old left) (with_arguments p (state_of old left) more ranges (old.arguments ++ v ∷ []) go),
    )

-- ---- all arguments

-- those from the i-th on are left
abbrev pub SoFar : Place → List Constraint → List Span → ℕ → Store → Store → Type 0
SoFar p ks ranges i first now =
    (left : List Answered) (go : List ℤ → Outcome)
    → with_arguments p (state_of first left) (map view_constraint (drop i ks)) (drop i ranges) now.arguments go ≡ with_arguments p (state_of first left) (map view_constraint ks) ranges [] go

pub so_far_begins : (p : Place) (ks : List Constraint) (ranges : List Span) (first now : Store) → now ≡ record first { arguments = [] } → SoFar p ks ranges 0 first now
so_far_begins p ks ranges first now is = λ left go. ap (λ (s : Store). with_arguments p (state_of first left) (map view_constraint ks) ranges s.arguments go) is

pub begins_on : (first now : Store) → now ≡ record first { arguments = [] } → PassedOn first now
begins_on first now is = is ∙ ap (λ (l : List ℤ). record first { arguments = l }) (sym (ap (λ (s : Store). s.arguments) is))

-- only the arguments changed, so the state is the same
state_on : (first now : Store) → PassedOn first now → (left : List Answered) → state_of now left ≡ state_of first left
state_on first now on left = ap (λ (s : Store). state_of s left) on

on_both : (first old new : Store) → PassedOn first old → PassedOn old new → PassedOn first new
on_both first old new one two = two ∙ ap (λ (s : Store). record s { arguments = new.arguments }) one

heads : (p : Place) (ks : List Constraint) (ranges : List Span) (i : ℕ) (k : Constraint) (range : Span) (state : State) (known : List ℤ) (go : List ℤ → Outcome)
    → i < length ks → i < length ranges → k ≡ get_or ks i k → slice_get ranges i ≡ Some range
    → with_arguments p state (map view_constraint (drop i ks)) (drop i ranges) known go ≡ with_arguments p state (view_constraint k ∷ map view_constraint (drop (i + 1) ks)) (range ∷ drop (i + 1) ranges) known go
heads p ks ranges i k range state known go in_ks in_ranges k_is range_is =
    ap (λ (l : List Constraint). with_arguments p state (map view_constraint l) (drop i ranges) known go) (drop_read ks i k in_ks k_is)
    ∙ ap (λ (l : List Span). with_arguments p state (view_constraint k ∷ map view_constraint (drop (i + 1) ks)) l known go) (drop_read ranges i range in_ranges (sym (get_or_from_slice_get ranges i range range range_is)))

pub passed_next : {U : Type 0} (u : U) (p : Place) (ks : List Constraint) (ranges : List Span) (i : ℕ) (k : Constraint) (range : Span) (first old new : Store)
    → i < length ks → length ks ≡ length ranges → k ≡ get_or ks i k → slice_get ranges i ≡ Some range → PassedOn first old → PassedOne p (view_constraint k) range old new (Ok u) → SoFar p ks ranges i first old → SoFar p ks ranges (i + 1) first new
passed_next u p ks ranges i k range first old new inside many k_is range_is on one so_far = λ left go.
    let same = state_on first old on left in
    sym (subst (λ (s : State). with_arguments p s (view_constraint k ∷ map view_constraint (drop (i + 1) ks)) (range ∷ drop (i + 1) ranges) old.arguments go ≡ with_arguments p s (map view_constraint (drop (i + 1) ks)) (drop (i + 1) ranges) new.arguments go) same (one.2 left (map view_constraint (drop (i + 1) ks)) (drop (i + 1) ranges) go))
    ∙ sym (heads p ks ranges i k range (state_of first left) old.arguments go inside (omega (arith, inside, many)) k_is range_is)
    ∙ so_far left go

pub next_on : {U : Type 0} (u : U) (p : Place) (k : ConstraintTree) (range : Span) (first old new : Store) → PassedOn first old → PassedOne p k range old new (Ok u) → PassedOn first new
next_on u p k range first old new on one = on_both first old new on one.0

pub passed_stop : (U V : Type 0) (p : Place) (ks : List Constraint) (ranges : List Span) (i : ℕ) (k : Constraint) (range : Span) (entry first old new : Store) (end : BodyEnd)
    → i < length ks → length ks ≡ length ranges → k ≡ get_or ks i k → slice_get ranges i ≡ Some range → PassedOn entry first → PassedOn first old → PassedOne {A = U} p (view_constraint k) range old new (Err end) → SoFar p ks ranges i first old
    → Passed {A = V} p (map view_constraint ks) ranges entry new (Err end)
passed_stop U V p ks ranges i k range entry first old new (Fault number) inside many k_is range_is start on one so_far = absurd one
passed_stop U V p ks ranges i k range entry first old new NoMemory inside many k_is range_is start on one so_far = absurd one
passed_stop U V p ks ranges i k range entry first old new (Trap kind) inside many k_is range_is start on one so_far = (
  on_both entry first new start (on_both first old new on one.0),
  λ left go.
      let same = state_on first old on left in
      let begun = state_on entry first start left in
      ap (λ (s : State). with_arguments p s (map view_constraint ks) ranges [] go) (sym begun)
      ∙ sym (so_far left go)
      ∙ heads p ks ranges i k range (state_of first left) old.arguments go inside (omega (arith, inside, many)) k_is range_is
      ∙ subst (λ (s : State). with_arguments p s (view_constraint k ∷ map view_constraint (drop (i + 1) ks)) (range ∷ drop (i + 1) ranges) old.arguments go ≡ Traps kind left) same (one.1 left (map view_constraint (drop (i + 1) ks)) (drop (i + 1) ranges) go),
)

drop_none : {X : Type 0} (i : ℕ) → drop {A = X} i [] ≡ []
drop_none zero = refl
drop_none (suc i) = refl

none_left : (p : Place) (ks : List Constraint) (ranges : List Span) (i : ℕ) (state : State) (known : List ℤ) (go : List ℤ → Outcome) → length ks ≤ i
    → with_arguments p state (map view_constraint (drop i ks)) (drop i ranges) known go ≡ go known
none_left p [] ranges i state known go all = ap (λ (l : List Constraint). with_arguments p state (map view_constraint l) (drop i ranges) known go) (drop_none i)
none_left p (k ∷ ks) ranges zero state known go all = absurd (omega (arith, all))
none_left p (k ∷ ks) [] (suc i) state known go all =
    subst (λ (l : List Span). with_arguments p state (map view_constraint (drop i ks)) l known go ≡ go known) (drop_none {X = Span} i) (none_left p ks [] i state known go (omega (arith, all)))
none_left p (k ∷ ks) (range ∷ ranges) (suc i) state known go all = none_left p ks ranges i state known go (omega (arith, all))

pub passed_all : {U : Type 0} (u : U) (p : Place) (ks : List Constraint) (ranges : List Span) (i : ℕ) (entry first new : Store) → length ks ≤ i → PassedOn entry first → PassedOn first new → SoFar p ks ranges i first new
    → Passed p (map view_constraint ks) ranges entry new (Ok u)
passed_all u p ks ranges i entry first new all start on so_far = (
  on_both entry first new start on,
  λ left go.
      ap (λ (s : State). with_arguments p s (map view_constraint ks) ranges [] go) (sym (state_on entry first start left))
      ∙ sym (so_far left go)
      ∙ none_left p ks ranges i (state_of first left) new.arguments go all,
)

-- ---- calls

abbrev passing : Place → List ConstraintTree → List Span → (List ℤ → State → Outcome) → State → Outcome
passing p ks ranges go state = with_arguments p state ks ranges [] (λ values. go values state)

abbrev asking : ℕ → List ℤ → (ℤ → State → Outcome) → State → Outcome
asking function values go state = answered state function values state.left go

abbrev testing : Option Span → ℤ → (ℤ → State → Outcome) → State → Outcome
testing range v go state = tested range v state (go v state)

call_is : (p : Place) (function : ℕ) (ks : List ConstraintTree) (found : FunctionTree) → slice_get p.model.functions function ≡ Some found
    → (go : ℤ → State → Outcome) (state : State) → call p state function ks go ≡ passing p ks found.parameters (λ w. asking function w (λ v. testing found.answer v go)) state
call_is p function ks found is go state = ap (λ (f : Option FunctionTree). call_of p state function f ks go) is

module _ (p : Place) (function : ℕ) (ks : List ConstraintTree) (found : FunctionTree) (is : slice_get p.model.functions function ≡ Some found) where
  as_call : (old new : Store) (before after : Option (List Answered)) (f g : ℕ) (result : Result ℤ BodyEnd)
      → Gave (λ go. passing p ks found.parameters (λ w. asking function w (λ v. testing found.answer v go))) old new before after f g result
      → Gave (λ go state. call p state function ks go) old new before after f g result
  as_call old new before after f g result gave = gave_as (λ go state. call p state function ks go) (λ go. passing p ks found.parameters (λ w. asking function w (λ v. testing found.answer v go))) result (call_is p function ks found is) gave

  args_gave : {U : Type 0} (u : U) (old mid : Store) (calls : Option (List Answered)) (f : ℕ) → Passed p ks found.parameters old mid (Ok u) → Gave (passing p ks found.parameters) old mid calls calls f f (Ok mid.arguments)
  args_gave u old mid calls f passed = gave_value (passing p ks found.parameters) mid.arguments refl
      (ap (λ (s : Store). s.calls) passed.0) (let e = ap (λ (s : Store). s.count) passed.0 in omega (arith, e)) (ap (λ (s : Store). s.room) passed.0)
      (λ go left. passed.1 left (λ values. go values (state_of old left)) ∙ ap (λ (s : State). go mid.arguments s) (sym (state_on old mid passed.0 left)))

  args_stopped : (U : Type 0) (old mid : Store) (calls : Option (List Answered)) (f : ℕ) (end : BodyEnd) → Passed {A = U} p ks found.parameters old mid (Err end) → Gave (passing p ks found.parameters) old mid calls calls f f (Err end)
  args_stopped U old mid calls f (Fault number) passed = absurd passed
  args_stopped U old mid calls f NoMemory passed = absurd passed
  args_stopped U old mid calls f (Trap kind) passed = gave_trap (passing p ks found.parameters) kind refl
      (ap (λ (s : Store). s.calls) passed.0) (let e = ap (λ (s : Store). s.count) passed.0 in omega (arith, e)) (ap (λ (s : Store). s.room) passed.0)
      (λ go left. passed.1 left (λ values. go values (state_of old left)))

  pub call_unpassed : (U : Type 0) (old mid : Store) (calls : Option (List Answered)) (f : ℕ) (end : BodyEnd) → Passed {A = U} p ks found.parameters old mid (Err end)
      → Gave (λ go state. call p state function ks go) old mid calls calls f f (Err end)
  call_unpassed U old mid calls f end passed =
      as_call old mid calls calls f f (Err end) (gave_stop (passing p ks found.parameters) (λ w go. asking function w (λ v. testing found.answer v go)) end (args_stopped U old mid calls f end passed))

  pub call_unanswered : {U : Type 0} (u : U) (old mid new : Store) (before after : Option (List Answered)) (f g : ℕ) (end : BodyEnd) → Passed p ks found.parameters old mid (Ok u)
      → Gave (λ go state. answered state function mid.arguments state.left go) mid new before after f g (Err end) → Gave (λ go state. call p state function ks go) old new before after f g (Err end)
  call_unanswered u old mid new before after f g end passed asked =
      as_call old new before after f g (Err end)
      (gave_then (passing p ks found.parameters) mid.arguments (λ w go. asking function w (λ v. testing found.answer v go)) (Err end) (args_gave u old mid before f passed)
      (gave_stop (asking function mid.arguments) (λ v. testing found.answer v) end asked))

  pub call_untested : {U : Type 0} (u : U) (old mid new : Store) (before after : Option (List Answered)) (f g : ℕ) (v : ℤ) (end : BodyEnd) → Passed p ks found.parameters old mid (Ok u)
      → Gave (λ go state. answered state function mid.arguments state.left go) mid new before after f g (Ok v)
      → (end ≡ Trap 2) × ((state : State) (go : Outcome) → tested found.answer v state go ≡ Traps 2 state.left) → Gave (λ go state. call p state function ks go) old new before after f g (Err end)
  call_untested u old mid new before after f g v end passed asked traps =
      subst (λ (e : BodyEnd). Gave (λ go state. call p state function ks go) old new before after f g (Err e)) (sym traps.0)
      (as_call old new before after f g (Err (Trap 2))
      (gave_then (passing p ks found.parameters) mid.arguments (λ w go. asking function w (λ x. testing found.answer x go)) (Err (Trap 2)) (args_gave u old mid before f passed)
      (gave_then (asking function mid.arguments) v (λ x. testing found.answer x) (Err (Trap 2)) asked
      (gave_trap (testing found.answer v) 2 {old = new} {new = new} {calls = after} refl refl (omega arith) refl (λ go left. traps.1 (state_of new left) (go v (state_of new left)))))))

  pub call_done : {U : Type 0} (u : U) (old mid new : Store) (before after : Option (List Answered)) (f g : ℕ) (v : ℤ) → Passed p ks found.parameters old mid (Ok u)
      → Gave (λ go state. answered state function mid.arguments state.left go) mid new before after f g (Ok v)
      → ((state : State) (go : Outcome) → tested found.answer v state go ≡ go) → Gave (λ go state. call p state function ks go) old new before after f g (Ok v)
  call_done u old mid new before after f g v passed asked inside =
      as_call old new before after f g (Ok v)
      (gave_then (passing p ks found.parameters) mid.arguments (λ w go. asking function w (λ x. testing found.answer x go)) (Ok v) (args_gave u old mid before f passed)
      (gave_then (asking function mid.arguments) v (λ x. testing found.answer x) (Ok v) asked
      (gave_value (testing found.answer v) v {old = new} {new = new} {calls = after} refl refl (omega arith) refl (λ go left. inside (state_of new left) (go v (state_of new left))))))

-- ---- sources

pub read_gave : (p : Place) (k : ConstraintTree) (old new : Store) (calls : Option (List Answered)) (f : ℕ) (result : Result ℤ BodyEnd)
    → MatchResult result (λ v. value_now p (state_of old []) k ≡ Some v) (λ end. (value_now p (state_of old []) k ≡ None) × (end ≡ Trap 1)) → new ≡ old
    → Gave (λ go state. source p state (Value k) go) old new calls calls f f result
read_gave p k old new calls f (Ok v) value same =
    subst (λ (s : Store). Gave (λ go state. source p state (Value k) go) old s calls calls f f (Ok v)) (sym same)
    (gave_value (λ go state. source p state (Value k) go) v refl refl (omega arith) refl (λ go left. ap (λ (o : Option ℤ). with_value (state_of old left) o (λ w. go w (state_of old left))) value))
read_gave p k old new calls f (Err end) value same =
    subst (λ (e : BodyEnd). Gave (λ go state. source p state (Value k) go) old new calls calls f f (Err e)) (sym value.1)
    (subst (λ (s : Store). Gave (λ go state. source p state (Value k) go) old s calls calls f f (Err (Trap 1))) (sym same)
    (gave_trap (λ go state. source p state (Value k) go) 1 refl refl (omega arith) refl (λ go left. ap (λ (o : Option ℤ). with_value (state_of old left) o (λ w. go w (state_of old left))) value.0)))
