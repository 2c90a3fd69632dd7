-- Laws of the order in which lists of choices are searched.
use Rattle.std.specs.Prelude.{◌≡◌, ℕ, ◌+◌, ◌≤◌, List, [], ◌∷◌, ◌++◌}
use Rattle.pst_model.specs.ModelTree.{ModelTree}
use Rattle.pst_model.specs.Sound.{IsSound}
use Rattle.pst_scen.specs.declared.scenario.Scenario.{Scenario}
use Rattle.pst_legal.specs.ValueReading.{Options, read}
use Rattle.pst_legal.specs.Legal.{Legal}
use Rattle.pst_legal.specs.First.{IsBefore, ReadsLegal, NoneBefore, IsLive, last_of, AreLive}
use Rattle.pst_list_order.specs.Passed.{NonePassed}

-- No list is before itself, and what is before a list that is before another is before that one.
abbrev pub BeforeIsStrict : Type 0
BeforeIsStrict = (one : List ℕ) → IsBefore one one → ⊥

abbrev pub BeforeGoesOn : Type 0
BeforeGoesOn = (one two three : List ℕ) → IsBefore one two → IsBefore two three → IsBefore one three

-- No list is before the empty one.
abbrev pub NothingIsFirst : Type 0
NothingIsFirst = (m : ModelTree) (root seed level : ℕ) → NoneBefore m root seed level []

-- Down: behind a list that reads no legal scenario, the first choice.
abbrev pub GoesDown : Type 0
GoesDown =
    (m : ModelTree) (root seed level : ℕ) (choices : List ℕ) → ((s : Scenario) → ReadsLegal m root seed level choices s → ⊥)
    → NoneBefore m root seed level choices → NoneBefore m root seed level (choices ++ 0 ∷ [])

-- Next: the choice after one that is passed.
abbrev pub GoesToNext : Type 0
GoesToNext =
    (m : ModelTree) (root seed level : ℕ) (choices : List ℕ) (digit : ℕ)
    → NonePassed m root seed level (choices ++ digit ∷ []) → NoneBefore m root seed level (choices ++ (digit + 1) ∷ [])

-- Up: past a place of which the last option is passed.
abbrev pub GoesUp : Type 0
GoesUp =
    (m : ModelTree) (root seed level : ℕ) (choices : List ℕ) (s : Scenario) (n digit : ℕ) → read m root seed level choices ≡ Options s n → n ≤ digit + 1
    → NonePassed m root seed level (choices ++ digit ∷ []) → NonePassed m root seed level choices

-- Over: past a list that begins no list that reads a legal scenario.
abbrev pub GoesOver : Type 0
GoesOver =
    (m : ModelTree) (root seed level : ℕ) (choices : List ℕ) → ((more : List ℕ) (s : Scenario) → ReadsLegal m root seed level (choices ++ more) s → ⊥)
    → NoneBefore m root seed level choices → NonePassed m root seed level choices

-- Where the empty list is passed, no legal scenario of a sound model is of the level.
abbrev pub LevelsEnd : Type 0
LevelsEnd = (m : ModelTree) (root seed level : ℕ) → IsSound m → NonePassed m root seed level [] → (s : Scenario) → s.level ≡ level → Legal m root s → ⊥

-- A live list behind the last of strictly rising ones is one more of them.
abbrev pub LiveListsRise : Type 0
LiveListsRise =
    (m : ModelTree) (root seed level : ℕ) (lists : List (List ℕ)) (list : List ℕ) → AreLive m root seed level lists
    → IsBefore (last_of [] lists) list → IsLive m root seed level list → AreLive m root seed level (lists ++ list ∷ [])
