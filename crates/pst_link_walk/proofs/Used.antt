-- Where a reading stands after one choice more, and after one less.
use Rattle.std.proofs.Common.{◌≡◌, ◌⊎◌, ℕ, ◌+◌, List, [], ◌∷◌, ◌++◌, length, refl, sym, ap, ◌∙◌, subst, inl, inr, ⊎_elim, append-nil}
use Rattle.pst_scen.specs.declared.scenario.Scenario.{Scenario}
use Rattle.pst_legal.specs.Reading.{Reading, Wants, Stops, Reads}
use Rattle.pst_link_walk.specs.Walks.{IsUsed}
use Rattle.pst_link_walk.specs.Made.{IsInside}
use Rattle.pst_link_walk.proofs.Cut.{Cut, Cuts}

nothing_left : (us left : List ℕ) → us ++ left ≡ [] → left ≡ []
nothing_left [] left e = e
nothing_left (u ∷ us) left e = absurd cc

tail_is : (x y : ℕ) (xs ys : List ℕ) → (x ∷ xs) ≡ (y ∷ ys) → xs ≡ ys
tail_is x y xs ys e = cc

head_is : (x y : ℕ) (xs ys : List ℕ) → (x ∷ xs) ≡ (y ∷ ys) → x ≡ y
head_is x y xs ys e = cc

-- the last of the choices is left over only where the others begin with those that are read
split : (used left xs : List ℕ) (d : ℕ) → xs ++ d ∷ [] ≡ used ++ left → (left ≡ []) ⊎ ((l : List ℕ) × (xs ≡ used ++ l))
split [] left xs d e = inr (xs, refl)
split (u ∷ us) left [] d e = inl (nothing_left us left (sym (tail_is d u [] (us ++ left) e)))
split (u ∷ us) left (x ∷ xs) d e =
    ⊎_elim (λ h. inl h)
    (λ h. inr (h.0, ap (λ ys. x ∷ ys) h.1 ∙ ap (λ y. y ∷ (us ++ h.0)) (head_is x u (xs ++ d ∷ []) (us ++ left) e)))
    (split us left xs d (tail_is x u (xs ++ d ∷ []) (us ++ left) e))

snoc_some : (xs : List ℕ) (d : ℕ) → xs ++ d ∷ [] ≡ [] → ⊥
snoc_some [] d e = cc
snoc_some (x ∷ xs) d e = cc

module _ (f : List ℕ → Reading) (on : (xs : List ℕ) (t : Scenario) (q : ℕ) (left : List ℕ) → f xs ≡ Reads t q left → (more : List ℕ) → f (xs ++ more) ≡ Reads t q (left ++ more))
    (p : ℕ) (cut : (ds : List ℕ) → Cuts p f ds (f ds)) where
  used_by : (xs : List ℕ) (d : ℕ) → IsInside (f xs) → (y : Reading) → Cuts p f (xs ++ d ∷ []) y → IsUsed y
  used_by xs d inside (Wants s n) it = tt
  used_by xs d inside Stops it = tt
  used_by xs d inside (Reads t q left) it =
      ⊎_elim (λ h. h)
      (λ h. absurd (subst IsInside (ap f h.1 ∙ it.reads h.0) inside))
      (split it.used left xs d it.is)

  -- from a place, one choice more leaves nothing over
  pub next_used : (xs : List ℕ) (d : ℕ) → IsInside (f xs) → IsUsed (f (xs ++ d ∷ []))
  next_used xs d inside = used_by xs d inside (f (xs ++ d ∷ [])) (cut (xs ++ d ∷ []))

  nil_by : (y : Reading) → Cuts p f [] y → IsUsed y
  nil_by (Wants s n) it = tt
  nil_by Stops it = tt
  nil_by (Reads t q left) it = nothing_left it.used left (sym it.is)

  pub nil_used : IsUsed (f [])
  nil_used = nil_by (f []) (cut [])

  -- the place behind the choices counts them
  pub place_is : (xs : List ℕ) (t : Scenario) (q : ℕ) → f xs ≡ Reads t q [] → q ≡ p + length xs
  place_is xs t q e =
      let it : Cut p f xs t q [] = subst (Cuts p f xs) e (cut xs) in
      it.counts ∙ ap (λ ys. p + length ys) (sym (append-nil it.used) ∙ sym it.is)

  inside_by : (xs : List ℕ) (d : ℕ) → IsUsed (f (xs ++ d ∷ [])) → (y : Reading) → f xs ≡ y → IsInside y
  inside_by xs d used (Wants s n) e = tt
  inside_by xs d used Stops e = tt
  inside_by xs d used (Reads t q left) e = snoc_some left d (subst IsUsed (on xs t q left e (d ∷ [])) used)

  -- where nothing was left over, one choice less comes to no end
  pub back_inside : (xs : List ℕ) (d : ℕ) → IsUsed (f (xs ++ d ∷ [])) → IsInside (f xs)
  back_inside xs d used = inside_by xs d used (f xs) refl

pub inside_used : (r : Reading) → IsInside r → IsUsed r
inside_used (Wants s n) inside = tt
inside_used Stops inside = tt
inside_used (Reads t q left) inside = absurd inside
