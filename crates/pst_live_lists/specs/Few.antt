-- How many live lists there are.
use Rattle.std.specs.Prelude.{◌≡◌, ◌≢◌, ℕ, ◌<◌, ◌≤◌, ◌⊎◌, List, length, All, AllPairs}
use Rattle.pst_model.specs.ModelTree.{ModelTree}
use Rattle.pst_legal.specs.First.{IsBefore, IsLive}

-- a list of choices of a level
pub record LevelList : Type 0 where
  pub level : ℕ
  pub choices : List ℕ

abbrev pub level_list : ℕ → List ℕ → LevelList
level_list level choices = record { level = level; choices = choices }

-- Fewer than so many live lists are of that kind: whoever names different ones names fewer.
abbrev pub FewLive : ModelTree → ℕ → ℕ → ℕ → (LevelList → Type 0) → Type 0
FewLive m root seed many IsOfKind =
    (lists : List LevelList) → AllPairs (λ one other. one ≢ other) lists → All (λ list. IsLive m root seed list.level list.choices) lists → All IsOfKind lists
    → length lists < many

-- the list is in a level below that one, or in that level and not behind those choices
abbrev pub IsUpTo : ℕ → List ℕ → LevelList → Type 0
IsUpTo level choices list = (list.level < level) ⊎ ((list.level ≡ level) × (IsBefore choices list.choices → ⊥))

-- the list is in a level that is searched
abbrev pub IsSearched : ℕ → LevelList → Type 0
IsSearched infer list = list.level ≤ infer
