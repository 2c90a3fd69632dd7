-- How the parts of a body follow one another.
use Rattle.std.proofs.Common.{◌≡◌, ℕ, ◌+◌, ◌≤◌, List, [], ◌++◌, length, Option, Some, None, Result, Ok, Err, refl, sym, ap, subst, ◌∙◌, arith}
use Rattle.std.proofs.lemmas.List.{append-nil, append_assoc, length-append}
use Rattle.pst_target.specs.declared.call.Call.{Call as Answered}
use Rattle.pst_legal.specs.Body.{State, Outcome, Traps, then_do}
use Rattle.pst_body.specs.declared.ending.BodyEnd.{BodyEnd}
use Rattle.pst_body.specs.declared.ending.BodyEnd.TheVariants.{Fault, Trap, NoMemory}
use Rattle.pst_body.specs.Stores.{Store, state_of}
use Rattle.pst_body.specs.Doing.{with_calls, CountsFault, Came, Made, Gave, goes_on, DidTo}

-- ---- calls

pub with_none : (calls : Option (List Answered)) → with_calls calls [] ≡ calls
with_none None = refl
with_none (Some calls) = ap (λ (l : List Answered). Some l) (append-nil calls)

pub with_both : (calls : Option (List Answered)) (first second : List Answered) → with_calls (with_calls calls first) second ≡ with_calls calls (first ++ second)
with_both None first second = refl
with_both (Some calls) first second = ap (λ (l : List Answered). Some l) (append_assoc calls first second)

pub made_then : {old mid new : Store} {before between after : Option (List Answered)} {first second : List Answered}
    → Made old mid before between first → Made mid new between after second → Made old new before after (first ++ second)
made_then {old} {mid} {new} {before} {between} {after} {first} {second} m n = record {
  calls = n.calls ∙ ap (λ (c : Option (List Answered)). with_calls c second) m.calls ∙ with_both before first second;
  counted = omega (arith, m.counted, n.counted, length-append first second);
  grows = omega (arith, m.grows, n.grows);
  room = n.room ∙ m.room;
}

pub made_none : {old new : Store} {calls : Option (List Answered)} → new.calls ≡ old.calls → old.count ≤ new.count → new.room ≡ old.room → Made old new calls calls []
made_none {old} {new} {calls} same grows room = record {
  calls = sym (with_none calls);
  counted = omega (arith, same);
  grows = grows;
  room = room;
}

-- ---- counts of faults

pub faults_from : {A : Type 0} (result : Result A BodyEnd) (before between after : ℕ) → between ≡ before → CountsFault result between after → CountsFault result before after
faults_from result before between after same counts = subst (λ (n : ℕ). CountsFault result n after) same counts

pub faults_stop : (A B : Type 0) (end : BodyEnd) (before after : ℕ) → CountsFault {A = A} (Err end) before after → CountsFault {A = B} (Err end) before after
faults_stop A B (Fault call) before after counts = counts
faults_stop A B (Trap kind) before after counts = counts
faults_stop A B NoMemory before after counts = counts

-- ---- parts

pub came_then : {A B : Type 0} (part : State → Outcome) (goes : A → State → Outcome) (v : A) (ends : B → State → Outcome) (old mid new : Store) (first second : List Answered) (result : Result B BodyEnd)
    → mid.calls ≡ old.calls + length first → Came part goes old mid first (Ok v) → Came (goes v) ends mid new second result → Came part ends old new (first ++ second) result
came_then part goes v ends old mid new first second (Ok w) counted one two = λ more.
    subst (λ (l : List Answered). part (state_of old l) ≡ ends w (state_of new more)) (sym (append_assoc first second more)) (one (second ++ more) ∙ two more)
came_then part goes v ends old mid new first second (Err (Trap kind)) counted one two = λ more.
    subst (λ (l : List Answered). part (state_of old l) ≡ Traps kind more) (sym (append_assoc first second more)) (one (second ++ more) ∙ two more)
came_then part goes v ends old mid new first second (Err (Fault call)) counted one two =
    (record { function = two.0.function; arguments = two.0.arguments; asks = one second ∙ two.0.asks }, let number = two.1 in omega (arith, number, counted, length-append first second))
came_then part goes v ends old mid new first second (Err NoMemory) counted one two =
    record { function = two.function; arguments = two.arguments; asks = one second ∙ two.asks }

pub came_stop : {A B : Type 0} (part : State → Outcome) (goes : A → State → Outcome) (ends : B → State → Outcome) (old new : Store) (made : List Answered) (end : BodyEnd)
    → Came part goes old new made (Err end) → Came part ends old new made (Err end)
came_stop part goes ends old new made (Fault call) came = came
came_stop part goes ends old new made (Trap kind) came = came
came_stop part goes ends old new made NoMemory came = came

pub did_then : {A B : Type 0} (part : State → Outcome) (goes : A → State → Outcome) (v : A) (ends : B → State → Outcome) {old mid new : Store} {before between after : Option (List Answered)} {f g h : ℕ} (result : Result B BodyEnd)
    → DidTo part goes old mid before between f g (Ok v) → DidTo (goes v) ends mid new between after g h result → DidTo part ends old new before after f h result
did_then part goes v ends {old} {mid} {new} {before} {between} {after} {f} {g} {h} result one two = record {
  list = one.list ++ two.list;
  made = made_then one.made two.made;
  faults = faults_from result f g h one.faults two.faults;
  came = came_then part goes v ends old mid new one.list two.list result one.made.counted one.came two.came;
}

pub did_stop : {A B : Type 0} (part : State → Outcome) (goes : A → State → Outcome) (ends : B → State → Outcome) {old new : Store} {before after : Option (List Answered)} {f g : ℕ} (end : BodyEnd)
    → DidTo part goes old new before after f g (Err end) → DidTo part ends old new before after f g (Err end)
did_stop {A} {B} part goes ends {old} {new} {before} {after} {f} {g} end did = record { list = did.list; made = did.made; faults = faults_stop A B end f g did.faults; came = came_stop part goes ends old new did.list end did.came }

came_as : {A : Type 0} (part other : State → Outcome) (goes : A → State → Outcome) (old new : Store) (made : List Answered) (result : Result A BodyEnd)
    → ((state : State) → part state ≡ other state) → Came other goes old new made result → Came part goes old new made result
came_as part other goes old new made (Ok v) same came = λ more. same (state_of old (made ++ more)) ∙ came more
came_as part other goes old new made (Err (Trap kind)) same came = λ more. same (state_of old (made ++ more)) ∙ came more
came_as part other goes old new made (Err (Fault call)) same came = (record { function = came.0.function; arguments = came.0.arguments; asks = same (state_of old made) ∙ came.0.asks }, came.1)
came_as part other goes old new made (Err NoMemory) same came = record { function = came.function; arguments = came.arguments; asks = same (state_of old made) ∙ came.asks }

-- a part that is another one
pub did_as : {A : Type 0} (part other : State → Outcome) (goes : A → State → Outcome) {old new : Store} {before after : Option (List Answered)} {f g : ℕ} (result : Result A BodyEnd)
    → ((state : State) → part state ≡ other state) → DidTo other goes old new before after f g result → DidTo part goes old new before after f g result
did_as part other goes {old} {new} result same did = record { list = did.list; made = did.made; faults = did.faults; came = came_as part other goes old new did.list result same did.came }

came_do : {A : Type 0} (part next : State → Outcome) (old new : Store) (made : List Answered) (result : Result A BodyEnd)
    → Came part goes_on old new made result → Came (λ state. then_do (part state) next) (λ v. next) old new made result
came_do part next old new made (Ok v) came = λ more. ap (λ (o : Outcome). then_do o next) (came more)
came_do part next old new made (Err (Trap kind)) came = λ more. ap (λ (o : Outcome). then_do o next) (came more)
came_do part next old new made (Err (Fault call)) came = (record { function = came.0.function; arguments = came.0.arguments; asks = ap (λ (o : Outcome). then_do o next) came.0.asks }, came.1)
came_do part next old new made (Err NoMemory) came = record { function = came.function; arguments = came.arguments; asks = ap (λ (o : Outcome). then_do o next) came.asks }

-- a part, behind which another one begins
pub did_do : {A : Type 0} (part next : State → Outcome) {old new : Store} {before after : Option (List Answered)} {f g : ℕ} (result : Result A BodyEnd)
    → DidTo part goes_on old new before after f g result → DidTo (λ state. then_do (part state) next) (λ v. next) old new before after f g result
did_do part next {old} {new} result did = record { list = did.list; made = did.made; faults = did.faults; came = came_do part next old new did.list result did.came }

-- ---- parts with a value

pub gave_to : {A : Type 0} (part : (A → State → Outcome) → State → Outcome) (go : A → State → Outcome) {old new : Store} {before after : Option (List Answered)} {f g : ℕ} (result : Result A BodyEnd)
    → Gave part old new before after f g result → DidTo (part go) go old new before after f g result
gave_to part go result gave = record { list = gave.list; made = gave.made; faults = gave.faults; came = gave.came go }

pub gave_then : {A B : Type 0} (part : (A → State → Outcome) → State → Outcome) (v : A) (next : A → (B → State → Outcome) → State → Outcome) {old mid new : Store} {before between after : Option (List Answered)} {f g h : ℕ} (result : Result B BodyEnd)
    → Gave part old mid before between f g (Ok v) → Gave (next v) mid new between after g h result → Gave (λ go. part (λ w. next w go)) old new before after f h result
gave_then part v next {old} {mid} {new} {before} {between} {after} {f} {g} {h} result one two = record {
  list = one.list ++ two.list;
  made = made_then one.made two.made;
  faults = faults_from result f g h one.faults two.faults;
  came = λ go. came_then (part (λ w. next w go)) (λ w. next w go) v go old mid new one.list two.list result one.made.counted (one.came (λ w. next w go)) (two.came go);
}

pub gave_stop : {A B : Type 0} (part : (A → State → Outcome) → State → Outcome) (next : A → (B → State → Outcome) → State → Outcome) {old new : Store} {before after : Option (List Answered)} {f g : ℕ} (end : BodyEnd)
    → Gave part old new before after f g (Err end) → Gave {A = B} (λ go. part (λ w. next w go)) old new before after f g (Err end)
gave_stop {A} {B} part next {old} {new} {before} {after} {f} {g} end gave = record {
  list = gave.list;
  made = gave.made;
  faults = faults_stop A B end f g gave.faults;
  came = λ go. came_stop (part (λ w. next w go)) (λ w. next w go) go old new gave.list end (gave.came (λ w. next w go));
}

-- ---- parts without calls

pub gave_value : {A : Type 0} (part : (A → State → Outcome) → State → Outcome) (v : A) {old new : Store} {calls : Option (List Answered)} {f g : ℕ} → g ≡ f → new.calls ≡ old.calls → old.count ≤ new.count → new.room ≡ old.room
    → ((go : A → State → Outcome) (left : List Answered) → part go (state_of old left) ≡ go v (state_of new left)) → Gave part old new calls calls f g (Ok v)
gave_value part v same calls grows room is = record { list = []; made = made_none calls grows room; faults = same; came = is }

pub gave_trap : {A : Type 0} (part : (A → State → Outcome) → State → Outcome) (kind : ℕ) {old new : Store} {calls : Option (List Answered)} {f g : ℕ} → g ≡ f → new.calls ≡ old.calls → old.count ≤ new.count → new.room ≡ old.room
    → ((go : A → State → Outcome) (left : List Answered) → part go (state_of old left) ≡ Traps kind left) → Gave {A = A} part old new calls calls f g (Err (Trap kind))
gave_trap part kind same calls grows room is = record { list = []; made = made_none calls grows room; faults = same; came = is }

pub did_value : {A : Type 0} (part : State → Outcome) (goes : A → State → Outcome) (v : A) {old new : Store} {calls : Option (List Answered)} {f g : ℕ} → g ≡ f → new.calls ≡ old.calls → old.count ≤ new.count → new.room ≡ old.room
    → ((left : List Answered) → part (state_of old left) ≡ goes v (state_of new left)) → DidTo part goes old new calls calls f g (Ok v)
did_value part goes v same calls grows room is = record { list = []; made = made_none calls grows room; faults = same; came = is }

pub did_trap : {A : Type 0} (part : State → Outcome) (goes : A → State → Outcome) (kind : ℕ) {old new : Store} {calls : Option (List Answered)} {f g : ℕ} → g ≡ f → new.calls ≡ old.calls → old.count ≤ new.count → new.room ≡ old.room
    → ((left : List Answered) → part (state_of old left) ≡ Traps kind left) → DidTo part goes old new calls calls f g (Err (Trap kind))
did_trap part goes kind same calls grows room is = record { list = []; made = made_none calls grows room; faults = same; came = is }

-- a part with a value that is another one
pub gave_as : {A : Type 0} (part other : (A → State → Outcome) → State → Outcome) {old new : Store} {before after : Option (List Answered)} {f g : ℕ} (result : Result A BodyEnd)
    → ((go : A → State → Outcome) (state : State) → part go state ≡ other go state) → Gave other old new before after f g result → Gave part old new before after f g result
gave_as part other {old} {new} result same gave = record { list = gave.list; made = gave.made; faults = gave.faults; came = λ go. came_as (part go) (other go) go old new gave.list result (same go) (gave.came go) }
