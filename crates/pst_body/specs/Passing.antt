-- How arguments are evaluated and tested.
use Rattle.std.specs.Prelude.{◌≡◌, ◌+◌, length, ℤ, List, [], ◌∷◌, Result, Ok, Err}
use Rattle.pst_expr.specs.declared.ranges.Span.{Span}
use Rattle.pst_target.specs.declared.call.Call.{Call as Answered}
use Rattle.pst_model.specs.ConstraintTree.{ConstraintTree}
use Rattle.pst_legal.specs.Body.{Outcome, Traps, Place, with_arguments}
use Rattle.pst_body.specs.declared.ending.BodyEnd.{BodyEnd}
use Rattle.pst_body.specs.declared.ending.BodyEnd.TheVariants.{Fault, Trap, NoMemory}
use Rattle.pst_body.specs.Stores.{Store, state_of}

-- only the arguments changed
abbrev pub PassedOn : Store → Store → Type 0
PassedOn old new = new ≡ record old { arguments = new.arguments }

-- The arguments were evaluated and stand in the new store, or one of them traps.
abbrev pub Passed : {A : Type 0} → Place → List ConstraintTree → List Span → Store → Store → Result A BodyEnd → Type 0
Passed p arguments ranges old new (Ok v) =
    PassedOn old new × ((left : List Answered) (go : List ℤ → Outcome) → with_arguments p (state_of old left) arguments ranges [] go ≡ go new.arguments)
Passed p arguments ranges old new (Err (Trap kind)) =
    PassedOn old new × ((left : List Answered) (go : List ℤ → Outcome) → with_arguments p (state_of old left) arguments ranges [] go ≡ Traps kind left)
Passed p arguments ranges old new (Err (Fault call)) = ⊥
Passed p arguments ranges old new (Err NoMemory) = ⊥

-- The next argument was evaluated and stands behind those before it, or it traps.
abbrev pub PassedOne : {A : Type 0} → Place → ConstraintTree → Span → Store → Store → Result A BodyEnd → Type 0
PassedOne p argument range old new (Ok v) =
    PassedOn old new × (length new.arguments ≡ length old.arguments + 1) × ((left : List Answered) (more : List ConstraintTree) (ranges : List Span) (go : List ℤ → Outcome)
    → with_arguments p (state_of old left) (argument ∷ more) (range ∷ ranges) old.arguments go ≡ with_arguments p (state_of old left) more ranges new.arguments go)
PassedOne p argument range old new (Err (Trap kind)) =
    PassedOn old new × ((left : List Answered) (more : List ConstraintTree) (ranges : List Span) (go : List ℤ → Outcome)
    → with_arguments p (state_of old left) (argument ∷ more) (range ∷ ranges) old.arguments go ≡ Traps kind left)
PassedOne p argument range old new (Err (Fault call)) = ⊥
PassedOne p argument range old new (Err NoMemory) = ⊥
