-- Texts of items that stand for others.
use Rattle.std.proofs.Common.{◌≡◌, ℕ, ◌+◌, List, [], ◌∷◌, ◌++◌, map, refl, ap}
use Rattle.pst_trace_texts.specs.Lines.{each_from}

pub each_map : {X Y : Type 0} (f : X → Y) (text : ℕ → Y → List ℕ) (number : ℕ) (items : List X) → each_from (λ n x. text n (f x)) number items ≡ each_from text number (map f items)
each_map f text number [] = refl
each_map f text number (x ∷ more) = ap (λ (rest : List ℕ). text number (f x) ++ rest) (each_map f text (number + 1) more)
