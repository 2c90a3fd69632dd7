-- Traversals counted: one outside of all choices and repetitions as 1, one within as 2.
use Rattle.std.proofs.Common.{◌≡◌, ◌⊎◌, ◌≤◌, inl, inr, refl, sym, ap, arith, ◌∙◌}
use Rattle.std.specs.Prelude.{ℕ, ◌+◌, Bool, true, false, List, [], ◌∷◌, ◌++◌, if◌then◌else◌}
use Rattle.std.proofs.lemmas.Bool.{false≢true}

abbrev pub tally : List Bool → ℕ
tally [] = 0
tally (false ∷ more) = 1 + tally more
tally (true ∷ more) = 2 + tally more

pub tally_both : (xs ys : List Bool) → tally (xs ++ ys) ≡ tally xs + tally ys
tally_both [] ys = omega arith
tally_both (false ∷ xs) ys = let rest = tally_both xs ys in omega (arith, rest)
tally_both (true ∷ xs) ys = let rest = tally_both xs ys in omega (arith, rest)

nothing_left : (xs : List Bool) → tally xs ≡ 0 → xs ≡ []
nothing_left [] e = refl
nothing_left (false ∷ xs) e = absurd (omega (arith, e))
nothing_left (true ∷ xs) e = absurd (omega (arith, e))

pub once : (xs : List Bool) → tally xs ≡ 1 → xs ≡ false ∷ []
once [] e = absurd (omega (arith, e))
once (false ∷ xs) e = ap (λ (ys : List Bool). false ∷ ys) (nothing_left xs (omega (arith, e)))
once (true ∷ xs) e = absurd (omega (arith, e))

-- Traversals of a part of a model, and of the part of the sources that it comes from: as many, or more than one in the sources. Within a choice or a
-- repetition there is none in the sources, or they count more than one.
pub record Alike (within : Bool) (model sources : List Bool) : Type 0 where
  pub same : (tally model ≡ tally sources) ⊎ (2 ≤ tally sources)
  pub deep : within ≡ true → (tally sources ≡ 0) ⊎ (2 ≤ tally sources)

pub alike_none : (within : Bool) → Alike within [] []
alike_none within = record { same = inl refl; deep = λ e. inl refl }

pub alike_leaf : (within b : Bool) → Alike within (if b then within ∷ [] else []) (if b then within ∷ [] else [])
alike_leaf within false = alike_none within
alike_leaf true true = record { same = inl refl; deep = λ e. inr (omega arith) }
alike_leaf false true = record { same = inl refl; deep = λ e. absurd (false≢true e) }

pub alike_within : (within : Bool) (m t : List Bool) → Alike true m t → Alike within m t
alike_within within m t a = record { same = a.same; deep = λ e. a.deep refl }

-- by equal counts
pub alike_by : (within : Bool) (m n t u : List Bool) → tally m ≡ tally n → tally t ≡ tally u → Alike within n u → Alike within m t
alike_by within m n t u e f a = record { same = one a.same; deep = λ h. two (a.deep h) }
  where
    one : (tally n ≡ tally u) ⊎ (2 ≤ tally u) → (tally m ≡ tally t) ⊎ (2 ≤ tally t)
    one (inl h) = inl (e ∙ (h ∙ sym f))
    one (inr h) = inr (omega (arith, f, h))

    two : (tally u ≡ 0) ⊎ (2 ≤ tally u) → (tally t ≡ 0) ⊎ (2 ≤ tally t)
    two (inl h) = inl (f ∙ h)
    two (inr h) = inr (omega (arith, f, h))

same_sum : (a b c d : ℕ) → (a ≡ c) ⊎ (2 ≤ c) → (b ≡ d) ⊎ (2 ≤ d) → (a + b ≡ c + d) ⊎ (2 ≤ c + d)
same_sum a b c d (inl e) (inl f) = inl (omega (arith, e, f))
same_sum a b c d (inl e) (inr g) = inr (omega (arith, g))
same_sum a b c d (inr g) f = inr (omega (arith, g))

deep_sum : (c d : ℕ) → (c ≡ 0) ⊎ (2 ≤ c) → (d ≡ 0) ⊎ (2 ≤ d) → (c + d ≡ 0) ⊎ (2 ≤ c + d)
deep_sum c d (inl e) (inl f) = inl (omega (arith, e, f))
deep_sum c d (inl e) (inr g) = inr (omega (arith, g))
deep_sum c d (inr g) f = inr (omega (arith, g))

-- by sums
pub alike_sum : (within : Bool) (m a b t c d : List Bool) → tally m ≡ tally a + tally b → tally t ≡ tally c + tally d → Alike within a c → Alike within b d → Alike within m t
alike_sum within m a b t c d e f p q = record { same = one (same_sum (tally a) (tally b) (tally c) (tally d) p.same q.same); deep = λ h. two (deep_sum (tally c) (tally d) (p.deep h) (q.deep h)) }
  where
    one : (tally a + tally b ≡ tally c + tally d) ⊎ (2 ≤ tally c + tally d) → (tally m ≡ tally t) ⊎ (2 ≤ tally t)
    one (inl h) = inl (omega (arith, e, f, h))
    one (inr h) = inr (omega (arith, f, h))

    two : (tally c + tally d ≡ 0) ⊎ (2 ≤ tally c + tally d) → (tally t ≡ 0) ⊎ (2 ≤ tally t)
    two (inl h) = inl (omega (arith, f, h))
    two (inr h) = inr (omega (arith, f, h))

pub alike_both : (within : Bool) (a b c d : List Bool) → Alike within a c → Alike within b d → Alike within (a ++ b) (c ++ d)
alike_both within a b c d p q = alike_sum within (a ++ b) a b (c ++ d) c d (tally_both a b) (tally_both c d) p q

-- a part that is left out of the model counts nothing, where those of the sources with it don't count more than one
pub alike_instead : (a other b c d : List Bool) → Alike true b c → Alike true (a ++ other) d → Alike true (a ++ b) (c ++ d)
alike_instead a other b c d p q = record { same = one p.same q.same (q.deep refl); deep = λ h. two (deep_sum (tally c) (tally d) (p.deep refl) (q.deep refl)) }
  where
    sum : tally (c ++ d) ≡ tally c + tally d
    sum = tally_both c d

    one : (tally b ≡ tally c) ⊎ (2 ≤ tally c) → (tally (a ++ other) ≡ tally d) ⊎ (2 ≤ tally d) → (tally d ≡ 0) ⊎ (2 ≤ tally d) → (tally (a ++ b) ≡ tally (c ++ d)) ⊎ (2 ≤ tally (c ++ d))
    one (inr h) q z = inr (omega (arith, sum, h))
    one (inl e) (inr h) z = inr (omega (arith, sum, h))
    one (inl e) (inl f) (inr h) = inr (omega (arith, sum, h))
    one (inl e) (inl f) (inl z) = inl (omega (arith, sum, tally_both a b, tally_both a other, e, f, z))

    two : (tally c + tally d ≡ 0) ⊎ (2 ≤ tally c + tally d) → (tally (c ++ d) ≡ 0) ⊎ (2 ≤ tally (c ++ d))
    two (inl h) = inl (omega (arith, sum, h))
    two (inr h) = inr (omega (arith, sum, h))
