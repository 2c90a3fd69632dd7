-- Two fronts of one list: the shorter one is a front of the longer.
use Rattle.std.proofs.Common.{◌≡◌, ℕ, suc, ◌+◌, ◌≤◌, List, [], ◌∷◌, ◌++◌, length, refl, ap, sym, ◌∙◌, arith}

pub front_within : {X : Type 0} (a x b y : List X) → a ++ x ≡ b ++ y → length a ≤ length b → (more : List X) × (b ≡ a ++ more) × (x ≡ more ++ y)
front_within [] x b y e l = (b, refl, e)
front_within (p ∷ a) x [] y e l = absurd (omega arith)
front_within (p ∷ a) x (q ∷ b) y e l =
    let head : p ≡ q = cc in
    let tails : a ++ x ≡ b ++ y = cc in
    let (more, longer, rest) = front_within a x b y tails (omega arith) in
    (more, ap (λ r. r ∷ b) (sym head) ∙ ap (λ r. p ∷ r) longer, rest)
