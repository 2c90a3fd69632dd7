-- Entries of one list that come from entries of another, in the same order.
use Rattle.std.proofs.Common.{◌≡◌, ◌⊎◌, inl, inr, refl, sym, ap, subst, ◌∙◌}
use Rattle.std.specs.Prelude.{List, [], ◌∷◌, ◌++◌}
use Rattle.std.specs.List.{flat_map}
use Rattle.std.proofs.lemmas.Grind.{flat_map-append}
use Rattle.pst_sound_model.proofs.Members.{In}

module _ {A B : Type 0} (R : A → B → Type 0) where
  pub data Follows : List A → List B → Type 0 where
    Done : (ys : List B) → Follows [] ys
    Take : (x : A) (xs : List A) (y : B) (ys : List B) → R x y → Follows xs ys → Follows (x ∷ xs) (y ∷ ys)
    Skip : (xs : List A) (y : B) (ys : List B) → Follows xs ys → Follows xs (y ∷ ys)

  pub follows_skip : (xs : List A) (zs ys : List B) → Follows xs ys → Follows xs (zs ++ ys)
  follows_skip xs [] ys f = f
  follows_skip xs (z ∷ zs) ys f = Skip xs z (zs ++ ys) (follows_skip xs zs ys f)

  pub follows_both : (xs us : List A) (ys vs : List B) → Follows xs ys → Follows us vs → Follows (xs ++ us) (ys ++ vs)
  follows_both _ us _ vs (Done ys) g = follows_skip us ys vs g
  follows_both _ us _ vs (Take x xs y ys r f) g = Take x (xs ++ us) y (ys ++ vs) r (follows_both xs us ys vs f g)
  follows_both _ us _ vs (Skip xs y ys f) g = Skip (xs ++ us) y (ys ++ vs) (follows_both xs us ys vs f g)

  pub follows_more : (xs : List A) (ys vs : List B) → Follows xs ys → Follows xs (ys ++ vs)
  follows_more _ _ vs (Done ys) = Done (ys ++ vs)
  follows_more _ _ vs (Take x xs y ys r f) = Take x xs y (ys ++ vs) r (follows_more xs ys vs f)
  follows_more _ _ vs (Skip xs y ys f) = Skip xs y (ys ++ vs) (follows_more xs ys vs f)

  -- each comes from an entry
  pub comes_from : (xs : List A) (ys : List B) → Follows xs ys → (x : A) → In x xs → (y : B) × R x y
  comes_from _ _ (Done ys) x there = absurd there
  comes_from _ _ (Take z xs y ys r f) x (inl e) = (y, subst (λ (w : A). R w y) e r)
  comes_from _ _ (Take z xs y ys r f) x (inr h) = comes_from xs ys f x h
  comes_from _ _ (Skip xs y ys f) x there = comes_from xs ys f x there

  -- where one comes from, with one before it
  pub record Come (earlier later : A) (ys : List B) : Type 0 where
    pub front : List B
    pub more : List B
    pub from : B
    pub is : ys ≡ front ++ from ∷ more
    pub of : R later from
    pub before : B
    pub among : In before front
    pub before_of : R earlier before

  -- where one comes from, with what is behind another one
  record Stands (later : A) (ys : List B) : Type 0 where
    front : List B
    more : List B
    from : B
    is : ys ≡ front ++ from ∷ more
    of : R later from

  stands_more : (later : A) (y : B) (ys : List B) → Stands later ys → Stands later (y ∷ ys)
  stands_more later y ys s = record { front = y ∷ s.front; more = s.more; from = s.from; is = ap (λ (l : List B). y ∷ l) s.is; of = s.of }

  stands : (xs : List A) (ys : List B) → Follows xs ys → (later : A) → In later xs → Stands later ys
  stands _ _ (Done ys) later there = absurd there
  stands _ _ (Take x xs y ys r f) later (inl e) = record { front = []; more = ys; from = y; is = refl; of = subst (λ (w : A). R w y) e r }
  stands _ _ (Take x xs y ys r f) later (inr h) = stands_more later y ys (stands xs ys f later h)
  stands _ _ (Skip xs y ys f) later there = stands_more later y ys (stands xs ys f later there)

  come_more : (earlier later : A) (y : B) (ys : List B) → Come earlier later ys → Come earlier later (y ∷ ys)
  come_more earlier later y ys c = record { front = y ∷ c.front; more = c.more; from = c.from; is = ap (λ (l : List B). y ∷ l) c.is; of = c.of; before = c.before; among = inr c.among; before_of = c.before_of }

  -- two of them, one before the other
  pub come : (front more : List A) (earlier later : A) (ys : List B) (xs : List A) → Follows xs ys → xs ≡ front ++ later ∷ more → In earlier front → Come earlier later ys
  come [] more earlier later ys xs f e there = absurd there
  come (z ∷ front) more earlier later _ _ (Done ys) e there = let never : ⊥ = cc in absurd never
  come (z ∷ front) more earlier later _ _ (Skip xs y ys f) e there = come_more earlier later y ys (come (z ∷ front) more earlier later ys xs f e there)
  come (z ∷ front) more earlier later _ _ (Take x xs y ys r f) e there = by there (λ same h. come front more earlier later ys xs f same h)
    where
      head : x ≡ z
      head = cc

      tail : xs ≡ front ++ later ∷ more
      tail = cc

      first : z ≡ earlier → Come earlier later (y ∷ ys)
      first same =
          let s = stands xs ys f later (subst (λ (l : List A). In later l) (sym tail) (behind front)) in
          record { front = y ∷ s.front; more = s.more; from = s.from; is = ap (λ (l : List B). y ∷ l) s.is; of = s.of; before = y; among = inl refl; before_of = subst (λ (w : A). R w y) (head ∙ same) r }
        where
          behind : (front : List A) → In later (front ++ later ∷ more)
          behind [] = inl refl
          behind (w ∷ ws) = inr (behind ws)

      by : (z ≡ earlier) ⊎ In earlier front → (xs ≡ front ++ later ∷ more → In earlier front → Come earlier later ys) → Come earlier later (y ∷ ys)
      by (inl same) on = first same
      by (inr h) on = come_more earlier later y ys (on tail h)

  -- ---- lists of lists

  pub follows_in : {C : Type 0} (g : C → List B) (cs : List C) (c : C) (xs : List A) → In c cs → Follows xs (g c) → Follows xs (flat_map g cs)
  follows_in g [] c xs there f = absurd there
  follows_in g (d ∷ cs) c xs (inl e) f = follows_more xs (g d) (flat_map g cs) (subst (λ (w : _). Follows xs (g w)) (sym e) f)
  follows_in g (d ∷ cs) c xs (inr h) f = follows_skip xs (g d) (flat_map g cs) (follows_in g cs c xs h f)

  pub follows_inner : {C D : Type 0} (g : D → List B) (h : C → List D) (cs : List C) (c : C) (xs : List A) → In c cs → Follows xs (flat_map g (h c)) → Follows xs (flat_map g (flat_map h cs))
  follows_inner g h [] c xs there f = absurd there
  follows_inner g h (d ∷ cs) c xs (inl e) f =
      subst (Follows xs) (sym (flat_map-append g (h d) (flat_map h cs))) (follows_more xs (flat_map g (h d)) (flat_map g (flat_map h cs)) (subst (λ (w : _). Follows xs (flat_map g (h w))) (sym e) f))
  follows_inner g h (d ∷ cs) c xs (inr there) f = subst (Follows xs) (sym (flat_map-append g (h d) (flat_map h cs))) (follows_skip xs (flat_map g (h d)) (flat_map g (flat_map h cs)) (follows_inner g h cs c xs there f))
