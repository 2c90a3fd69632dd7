-- Properties of each two items of a list.
use Rattle.std.proofs.Common.{◌↔◌, zero, suc, List, [], ◌∷◌, All, AllPairs, arith}
use Rattle.std.proofs.lemmas.List.Kept.{AllPairs-cons}

pub pairs_head : {X : Type 0} (R : X → X → Type 0) (x : X) (xs : List X) → AllPairs R (x ∷ xs) → All (R x) xs
pairs_head R x xs h = λ k d within. h zero (suc k) d (omega arith) (omega arith)

pub pairs_tail : {X : Type 0} (R : X → X → Type 0) (x : X) (xs : List X) → AllPairs R (x ∷ xs) → AllPairs R xs
pairs_tail R x xs h = λ i j d below within. h (suc i) (suc j) d (omega arith) (omega arith)

pub pairs_cons : {X : Type 0} (R : X → X → Type 0) (x : X) (xs : List X) → AllPairs R (x ∷ xs) ↔ All (R x) xs × AllPairs R xs
pairs_cons R x xs = (λ h. (pairs_head R x xs h, pairs_tail R x xs h), λ h. AllPairs-cons R x xs h.0 h.1)

pub pairs_nil : {X : Type 0} (R : X → X → Type 0) → AllPairs R []
pairs_nil R = λ i j d below within. let no : ⊥ = omega arith in absurd no
