-- The limits: at most 64 derivations in one another, and at most 256 operators in an outermost expression.
use Rattle.std.specs.Prelude.{ℕ, suc, List, [], ◌∷◌, Bool, ◌||◌, ltb, if◌then◌else◌, Option, Some, None}
use Rattle.std.specs.Option.{option_map}

-- what counts at a token: the derivations that are open at it, itself included, and the operators of its outermost expression up to it, itself included
pub record Count : Type 0 where
  pub nesting : ℕ
  pub operators : ℕ

abbrev pub counted : ℕ → ℕ → Count
counted nesting operators = record { nesting = nesting; operators = operators }

-- those of a part that may be left out
abbrev pub counts_option : {A : Type 0} → (A → List Count) → Option A → List Count
counts_option counts None = []
counts_option counts (Some part) = counts part

-- whether a token breaks a limit
abbrev pub is_over : Count → Bool
is_over c = ltb 64 c.nesting || ltb 256 c.operators

-- the index of the first token that breaks a limit
abbrev pub first_over : List Count → Option ℕ
first_over [] = None
first_over (c ∷ cs) = if is_over c then Some 0 else option_map suc (first_over cs)
