-- The first legal scenario in the seed's order, and what was spent before it.
use Rattle.std.specs.Prelude.{◌≡◌, ◌≢◌, ℕ, ◌+◌, ◌<◌, ◌≤◌, ◌⊎◌, List, [], ◌∷◌, length, sum_by, All, AllPairs, false, Some, slice_get}
use Rattle.pst_model.specs.ConstraintTree.{SlotTree, ConstraintTree}
use Rattle.pst_model.specs.ModelTree.{ModelTree}
use Rattle.pst_scen.specs.declared.scenario.Scenario.{Scenario}
use Rattle.pst_legal.specs.Standing.{Standing}
use Rattle.pst_legal.specs.Constraints.{HasConstraint, is_refused_at}
use Rattle.pst_legal.specs.ValueReading.{Answer, Options, Dead, Whole, read}
use Rattle.pst_legal.specs.Legal.{Legal}

-- the lexicographic order, a list before the lists that begin with it
abbrev pub IsBefore : List ℕ → List ℕ → Type 0
IsBefore xs [] = ⊥
IsBefore [] (y ∷ ys) = Unit {0}
IsBefore (x ∷ xs) (y ∷ ys) = (x < y) ⊎ ((x ≡ y) × IsBefore xs ys)

-- a list of choices reads a legal scenario of the level
pub record ReadsLegal (m : ModelTree) (root seed level : ℕ) (choices : List ℕ) (s : Scenario) : Type 0 where
  pub reads : read m root seed level choices ≡ Whole s
  pub legal : Legal m root s

-- no level below has a legal scenario
abbrev pub NoneBelow : ModelTree → ℕ → ℕ → Type 0
NoneBelow m root level = (s : Scenario) → s.level < level → Legal m root s → ⊥

-- no list of choices before this one reads a legal scenario of the level
abbrev pub NoneBefore : ModelTree → ℕ → ℕ → ℕ → List ℕ → Type 0
NoneBefore m root seed level choices = (other : List ℕ) (s : Scenario) → IsBefore other choices → ReadsLegal m root seed level other s → ⊥

-- The scenario is the legal one of the least level that has one, and in that level of the least list of choices.
pub record IsFirst (m : ModelTree) (root seed infer : ℕ) (s : Scenario) : Type 0 where
  pub few : s.level ≤ infer
  pub below : NoneBelow m root s.level
  pub choices : List ℕ
  pub reads : ReadsLegal m root seed s.level choices s
  pub before : NoneBefore m root seed s.level choices

-- ---- live lists

-- none of the scenario's constraints is refused at what is known
abbrev pub NoneRefused : ModelTree → Scenario → Type 0
NoneRefused m s = (k : ConstraintTree) (standing : SlotTree → Standing) → HasConstraint m s k standing → is_refused_at k standing ≡ false

abbrev pub IsLiveAnswer : ModelTree → Answer → Type 0
IsLiveAnswer m (Options s n) = NoneRefused m s
IsLiveAnswer m (Whole s) = NoneRefused m s
IsLiveAnswer m Dead = ⊥

-- the list isn't empty, doesn't come to a dead end, and what it has read refuses no constraint
pub record IsLive (m : ModelTree) (root seed level : ℕ) (choices : List ℕ) : Type 0 where
  pub some : choices ≢ []
  pub live : IsLiveAnswer m (read m root seed level choices)

abbrev pub last_of : List ℕ → List (List ℕ) → List ℕ
last_of last [] = last
last_of last (list ∷ lists) = last_of list lists

-- strictly rising live lists of a level
pub record AreLive (m : ModelTree) (root seed level : ℕ) (lists : List (List ℕ)) : Type 0 where
  pub live : All (IsLive m root seed level) lists
  pub rising : AllPairs IsBefore lists

-- The budget is spent in the level: the levels below have no legal scenario; so many live lists rise strictly in the levels
-- up to this one, which has at least one; and no legal scenario of the level is read by a list before the last of them.
pub record Spent (m : ModelTree) (root seed level budget : ℕ) : Type 0 where
  pub below : NoneBelow m root level
  pub lists : List (List (List ℕ))
  pub levels : length lists ≡ level + 1
  pub live : (k : ℕ) (of_level : List (List ℕ)) → slice_get lists k ≡ Some of_level → AreLive m root seed k of_level
  pub count : sum_by length lists ≡ budget
  pub here : List (List ℕ)
  pub is : slice_get lists level ≡ Some here
  pub some : here ≢ []
  pub before : NoneBefore m root seed level (last_of [] here)
