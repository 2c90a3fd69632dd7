-- What lanes tell of a call that may run bodies on them.
use Rattle.std.specs.Prelude.{◌≡◌, ℕ, List, [], ◌∷◌, All, Option}
use Rattle.pst_target.specs.declared.call.Call.{Call as Answered}
use Rattle.pst_body.specs.Doing.{with_calls}

-- what a lane tells of its calls before and after, and its counts of faults
pub record Lane : Type 0 where
  pub before : Option (List Answered)
  pub after : Option (List Answered)
  pub faults_before : ℕ
  pub faults_after : ℕ

abbrev pub lane : Option (List Answered) → Option (List Answered) → ℕ → ℕ → Lane
lane before after faults_before faults_after = record { before = before; after = after; faults_before = faults_before; faults_after = faults_after }

-- it has no new call
pub record IsUncalled (l : Lane) : Type 0 where
  pub calls : l.after ≡ l.before
  pub count : l.faults_after ≡ l.faults_before

-- its calls are those that it had, and others behind them
abbrev pub HasMade : Lane → Type 0
HasMade l = (made : List Answered) × (l.after ≡ with_calls l.before made)

-- no lane has a new call
abbrev pub AreUncalled : List Lane → Type 0
AreUncalled lanes = All IsUncalled lanes

-- calls may have been made on each lane
abbrev pub HaveMade : List Lane → Type 0
HaveMade lanes = All HasMade lanes

-- what lanes tell that were those and are these, one after another
abbrev pub lanes_told : {T : Type 0} → (T → Option (List Answered)) → (T → ℕ) → List T → List T → List Lane
lanes_told calls faults [] now = []
lanes_told calls faults (was ∷ more) [] = []
lanes_told calls faults (was ∷ more) (is ∷ others) = lane (calls was) (calls is) (faults was) (faults is) ∷ lanes_told calls faults more others
