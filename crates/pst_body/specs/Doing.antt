-- What a part of a body did on a lane.
use Rattle.std.specs.Prelude.{◌≡◌, ℕ, ◌+◌, ◌≤◌, ℤ, List, ◌++◌, length, Option, Result, Ok, Err}
use Rattle.std.specs.Option.{option_map}
use Rattle.pst_base.specs.Fault.{HasRisen}
use Rattle.pst_target.specs.declared.call.Call.{Call as Answered}
use Rattle.pst_legal.specs.Body.{State, Outcome, Goes, Traps, Asks}
use Rattle.pst_body.specs.declared.ending.BodyEnd.{BodyEnd}
use Rattle.pst_body.specs.declared.ending.BodyEnd.TheVariants.{Fault, Trap, NoMemory}
use Rattle.pst_body.specs.Stores.{Store, state_of}

-- the list of a lane, where it is told, with these calls behind it
abbrev pub with_calls : Option (List Answered) → List Answered → Option (List Answered)
with_calls before made = option_map (λ calls. calls ++ made) before

-- the count of faults rose where a call failed, and is as it was where the body ended otherwise
abbrev pub CountsFault : {A : Type 0} → Result A BodyEnd → ℕ → ℕ → Type 0
CountsFault (Ok v) old new = new ≡ old
CountsFault (Err (Fault call)) old new = HasRisen old new
CountsFault (Err (Trap kind)) old new = new ≡ old
CountsFault (Err NoMemory) old new = new ≡ old

-- once these calls are answered, the part asks for another one
pub record IsAsked (part : State → Outcome) (old : Store) (made : List Answered) : Type 0 where
  pub function : ℕ
  pub arguments : List ℤ
  pub asks : part (state_of old made) ≡ Asks function arguments

-- The part, whose value goes on by `goes`, comes to this result from one store to the other with these answered calls; it
-- uses no other.
abbrev pub Came : {A : Type 0} → (State → Outcome) → (A → State → Outcome) → Store → Store → List Answered → Result A BodyEnd → Type 0
Came part goes old new made (Ok v) = (more : List Answered) → part (state_of old (made ++ more)) ≡ goes v (state_of new more)
Came part goes old new made (Err (Fault call)) = IsAsked part old made × (call ≡ old.calls + length made + 1)
Came part goes old new made (Err (Trap kind)) = (more : List Answered) → part (state_of old (made ++ more)) ≡ Traps kind more
Came part goes old new made (Err NoMemory) = IsAsked part old made

-- what the calls of a part are to the lane and to the store
pub record Made (old new : Store) (before after : Option (List Answered)) (made : List Answered) : Type 0 where
  pub calls : after ≡ with_calls before made
  pub counted : new.calls ≡ old.calls + length made
  pub grows : old.count ≤ new.count
  pub room : new.room ≡ old.room

-- a part whose value goes on
pub record Gave {A : Type 0} (part : (A → State → Outcome) → State → Outcome) (old new : Store) (before after : Option (List Answered)) (faults_before faults_after : ℕ) (result : Result A BodyEnd) : Type 0 where
  pub list : List Answered
  pub made : Made old new before after list
  pub faults : CountsFault result faults_before faults_after
  pub came : (go : A → State → Outcome) → Came (part go) go old new list result

abbrev pub goes_on : {A : Type 0} → A → State → Outcome
goes_on v state = Goes state

-- a part that goes on so
pub record DidTo {A : Type 0} (part : State → Outcome) (goes : A → State → Outcome) (old new : Store) (before after : Option (List Answered)) (faults_before faults_after : ℕ) (result : Result A BodyEnd) : Type 0 where
  pub list : List Answered
  pub made : Made old new before after list
  pub faults : CountsFault result faults_before faults_after
  pub came : Came part goes old new list result

-- a part without a value
abbrev pub Did : {A : Type 0} → (State → Outcome) → Store → Store → Option (List Answered) → Option (List Answered) → ℕ → ℕ → Result A BodyEnd → Type 0
Did part old new before after faults_before faults_after result = DidTo part goes_on old new before after faults_before faults_after result
