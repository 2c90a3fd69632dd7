-- The choices of the list at hand, and why those before them are passed.
use Rattle.std.specs.Prelude.{◌≡◌, ℕ, ◌<◌, List, [], ◌∷◌, ◌++◌, reverse}
use Rattle.pst_scen.specs.declared.scenario.Scenario.{Scenario}
use Rattle.pst_legal.specs.ValueReading.{Options}
use Rattle.pst_search_loop.specs.declared.conflict.Conflict.{Conflict}
use Rattle.pst_search_loop.specs.declared.frame.Frame.{Frame}
use Rattle.pst_search_loop.specs.Kept.{Kept, at_list, answer, IsWithin, Excludes}

-- the choices, where the latest stands first
abbrev pub digits_of : List Frame → List ℕ
digits_of [] = []
digits_of (f ∷ older) = digits_of older ++ f.digit ∷ []

-- why all options of a place before one are passed
pub record ArePassed (k : Kept) (c : Conflict) (digit : ℕ) : Type 0 where
  pub within : IsWithin k c
  pub each : (d : ℕ) → d < digit → Excludes k c d

-- at a place with so many options, one of them, and why those before it are passed
pub record IsRight (k : Kept) (f : Frame) : Type 0 where
  pub scenario : Scenario
  pub options : answer k ≡ Options scenario f.count
  pub named : f.digit < f.count
  pub passed : ArePassed k f.reasons f.digit

abbrev pub AllRight : Kept → List Frame → Type 0
AllRight k [] = Unit {0}
AllRight k (f ∷ older) = IsRight (at_list k (digits_of older)) f × AllRight k older

pub record Stands (k : Kept) (frames : List Frame) : Type 0 where
  pub choices : k.choices ≡ digits_of (reverse frames)
  pub right : AllRight k (reverse frames)
