-- What a walker through lists of choices keeps, and what it shows of it.
use Rattle.std.specs.Prelude.{◌≡◌, ℕ, ◌+◌, ◌<◌, ◌≤◌, List, ◌∷◌, [], ◌++◌, length, take, Bool, true}
use Rattle.pst_model.specs.ModelTree.{ModelTree}
use Rattle.pst_scen.specs.declared.scenario.Scenario.{Scenario}
use Rattle.pst_legal.specs.ValueReading.{Answer, Options, Dead, Whole, read}
use Rattle.pst_legal.specs.First.{ReadsLegal, NoneRefused}
use Rattle.pst_search_loop.specs.declared.conflict.Conflict.{Conflict}
use Rattle.pst_search_loop.specs.declared.walker.Look.{Look}
use Rattle.pst_search_loop.specs.declared.walker.Look.TheVariants as look
use Rattle.pst_search_loop.specs.declared.walker.Judged.{Judged}
use Rattle.pst_search_loop.specs.declared.walker.Judged.TheVariants as judged
use Rattle.pst_search_loop.specs.declared.walker.Skipped.{Skipped}
use Rattle.pst_search_loop.specs.Conflicts.{Has}

-- The fact for which the last choice of a list of a level stands, as a test of any list of any level.
abbrev pub Facts : Type 0
Facts = (level : ℕ) → (choices : List ℕ) → (other_level : ℕ) → (other : List ℕ) → Bool

pub record Kept : Type 0 where
  pub model : ModelTree
  pub root : ℕ
  pub seed : ℕ
  pub facts : Facts
  pub level : ℕ
  pub choices : List ℕ

-- the same at another list
abbrev pub at_list : Kept → List ℕ → Kept
at_list k choices = record { model = k.model; root = k.root; seed = k.seed; facts = k.facts; level = k.level; choices = choices }

abbrev pub with_choice : Kept → ℕ → Kept
with_choice k digit = at_list k (k.choices ++ digit ∷ [])

-- at the empty list of a level
abbrev pub at_level : Kept → ℕ → Kept
at_level k level = record { model = k.model; root = k.root; seed = k.seed; facts = k.facts; level = level; choices = [] }

abbrev pub answer : Kept → Answer
answer k = read k.model k.root k.seed k.level k.choices

-- the list of that level reads a legal scenario
abbrev pub Sought : Kept → ℕ → List ℕ → Type 0
Sought k level choices = (s : Scenario) × ReadsLegal k.model k.root k.seed level choices s

-- What each choice of a list stands for holds of that list.
abbrev pub FactsHold : Facts → Type 0
FactsHold facts = (level : ℕ) (choices : List ℕ) (p : ℕ) → p < length choices → facts level (take (p + 1) choices) level choices ≡ true

-- ---- conflicts

-- what the choices at a conflict's places stand for holds of the list
pub record Agrees (k : Kept) (c : Conflict) (level : ℕ) (other : List ℕ) : Type 0 where
  pub same_level : c.on_level ≡ true → level ≡ k.level
  pub facts : (p : ℕ) → Has c p → k.facts k.level (take (p + 1) k.choices) level other ≡ true

abbrev pub IsWithin : Kept → Conflict → Type 0
IsWithin k c = (p : ℕ) → Has c p → p < length k.choices

-- No list that agrees with the choices at all its places reads a legal scenario.
pub record IsConflict (k : Kept) (c : Conflict) : Type 0 where
  pub within : IsWithin k c
  pub none : (level : ℕ) (other : List ℕ) → Agrees k c level other → Sought k level other → ⊥

-- Where a list that reads a legal scenario agrees with the choices at these places, some option stands for what holds of it.
pub record Rests (k : Kept) (n : ℕ) (c : Conflict) : Type 0 where
  pub within : IsWithin k c
  pub some : (level : ℕ) (other : List ℕ) → Agrees k c level other → Sought k level other
      → (digit : ℕ) × (digit < n) × (k.facts k.level (k.choices ++ digit ∷ []) level other ≡ true)

-- No list that agrees with the choices at these places, and of which holds what this option stands for, reads a legal scenario.
pub record Excludes (k : Kept) (c : Conflict) (digit : ℕ) : Type 0 where
  pub none : (level : ℕ) (other : List ℕ) → Agrees k c level other → k.facts k.level (k.choices ++ digit ∷ []) level other ≡ true → Sought k level other → ⊥

-- ---- options that are skipped

-- each option from one on, to below the one that isn't skipped
pub record Skips (k : Kept) (from count : ℕ) (skipped : Skipped) : Type 0 where
  pub least : from ≤ skipped.digit
  pub most : skipped.digit ≤ count
  pub within : IsWithin k skipped.conflict
  pub each : (digit : ℕ) → from ≤ digit → digit < skipped.digit → Excludes k skipped.conflict digit

-- none is skipped, wherever that may be
abbrev pub SkipsNothing : ℕ → Skipped → Type 0
SkipsNothing digit skipped = (k : Kept) (count : ℕ) → digit ≤ count → Skips k digit count skipped

-- ---- what is shown

-- a place that refuses nothing, a whole scenario that refuses nothing, or a conflict
abbrev pub Shows : Kept → Look → Type 0
Shows k (look.Options count) = (s : Scenario) × (answer k ≡ Options s count) × NoneRefused k.model s
Shows k look.Whole = (s : Scenario) × (answer k ≡ Whole s) × NoneRefused k.model s
Shows k (look.Closed conflict) = IsConflict k conflict

-- a legal scenario, or a conflict
abbrev pub Judges : Kept → Judged → Type 0
Judges k judged.Legal = Sought k k.level k.choices
Judges k (judged.Refused conflict) = IsConflict k conflict

-- there is such an option
abbrev pub HasDigit : Answer → ℕ → Type 0
HasDigit (Options s n) digit = digit < n
HasDigit Dead digit = ⊥
HasDigit (Whole s) digit = ⊥

abbrev pub HasOptions : Answer → ℕ → Type 0
HasOptions (Options s n) count = n ≡ count
HasOptions Dead count = ⊥
HasOptions (Whole s) count = ⊥

abbrev pub IsWhole : Answer → Type 0
IsWhole (Options s n) = ⊥
IsWhole Dead = ⊥
IsWhole (Whole s) = Unit {0}

-- the same but for the choices
pub record SameKept (k l : Kept) : Type 0 where
  pub model : l.model ≡ k.model
  pub root : l.root ≡ k.root
  pub seed : l.seed ≡ k.seed
  pub facts : l.facts ≡ k.facts
  pub level : l.level ≡ k.level
