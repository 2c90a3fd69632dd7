-- Texts of lines.
use Rattle.std.specs.Prelude.{ℕ, ◌+◌, List, [], ◌∷◌, ◌++◌, Bool, false, ◌||◌}

-- a line with its line feed
abbrev pub line : List ℕ → List ℕ
line text = text ++ 10 ∷ []

-- the text of each item in order, of which the first has this number
abbrev pub each_from : {X : Type 0} → (ℕ → X → List ℕ) → ℕ → List X → List ℕ
each_from text number [] = []
each_from text number (item ∷ items) = text number item ++ each_from text (number + 1) items

-- whether it holds of some item, of which the first has this number
abbrev pub any_from : {X : Type 0} → (ℕ → X → Bool) → ℕ → List X → Bool
any_from test number [] = false
any_from test number (item ∷ items) = test number item || any_from test (number + 1) items
