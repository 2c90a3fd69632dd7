-- References that are picked stand in order, and where one of them stands.
use Rattle.std.proofs.Common.{◌≡◌, ◌⊎◌, ℕ, zero, suc, ◌+◌, ◌<◌, ◌≤◌, List, [], ◌∷◌, ◌++◌, length, get_or, Bool, true, false, ◌&&◌, ◌||◌, nat_eq, nat_lt, inl, inr, refl, sym, ap, ◌∙◌, subst, arith}
use Rattle.std.specs.Prelude.{map, flat_map, if◌then◌else◌}
use Rattle.std.specs.List.{filter, enumerate_from}
use Rattle.std.specs.List.Sorted.{IsPartitionedBy}
use Rattle.std.proofs.lemmas.List.{map-append, get_or_default}
use Rattle.std.proofs.lemmas.List.Elements.{filter-append}
use Rattle.std.proofs.lemmas.Bool.{eq-eqb, ne_eqb, eqb-true, ltb-true, ltb-false, lt-ltb, le-ltb, and_parts, cases_Bool, cases_order, both_ways}
use Rattle.pst_scen.specs.declared.act.Act.{Act}
use Rattle.pst_scen.specs.declared.act.Filled.{Filled}
use Rattle.pst_legal.specs.SupplyReading.{Spot, spots_in, spots}
use Rattle.pst_ties.specs.declared.tied.End.{End}
use Rattle.pst_ties.specs.Tieds.{same_end}
use Rattle.pst_pool_sources.specs.Offers.{end_of}
use Rattle.pst_pool_sources.specs.Places.{is_before, Before, AreRising}

-- ---- what the tests mean

abbrev After : End → End → Type 0
After a b = (b.act ≤ a.act) × (a.act ≡ b.act → b.reference ≤ a.reference)

before_true : (a b : End) → is_before a b ≡ true → Before a b
before_true a b h = go (nat_lt a.act b.act) refl h
  where
    go : (t : Bool) → nat_lt a.act b.act ≡ t → (t || (nat_eq a.act b.act && nat_lt a.reference b.reference)) ≡ true → Before a b
    go true e h = let less : a.act < b.act = ltb-true a.act b.act e in (omega arith, λ s. let bad : ⊥ = omega arith in absurd bad)
    go false e h =
        let parts = and_parts (nat_eq a.act b.act) (nat_lt a.reference b.reference) h in
        let same : a.act ≡ b.act = eqb-true a.act b.act parts.0 in
        (omega arith, λ s. ltb-true a.reference b.reference parts.1)

before_false : (a b : End) → is_before a b ≡ false → After a b
before_false a b h = go (nat_lt a.act b.act) refl h
  where
    rest : b.act ≤ a.act → (u v : Bool) → nat_eq a.act b.act ≡ u → nat_lt a.reference b.reference ≡ v → (u && v) ≡ false → After a b
    rest l true false e f h = (l, λ s. ltb-false a.reference b.reference f)
    rest l true true e f h = absurd (both_ways true h refl)
    rest l false v e f h = (l, λ s. absurd (both_ways (nat_eq a.act b.act) e (eq-eqb a.act b.act s)))

    go : (t : Bool) → nat_lt a.act b.act ≡ t → (t || (nat_eq a.act b.act && nat_lt a.reference b.reference)) ≡ false → After a b
    go true e h = absurd (both_ways true h refl)
    go false e h = rest (ltb-false a.act b.act e) (nat_eq a.act b.act) (nat_lt a.reference b.reference) refl refl h

before_test : (a b : End) → Before a b → is_before a b ≡ true
before_test a b h = go (cases_order a.act b.act)
  where
    go : (a.act ≡ b.act) ⊎ ((a.act < b.act) ⊎ (b.act < a.act)) → is_before a b ≡ true
    go (inl e) =
        let l : b.act ≤ a.act = omega arith in
        ap (λ t. t || (nat_eq a.act b.act && nat_lt a.reference b.reference)) (le-ltb a.act b.act l)
        ∙ ap (λ t. t && nat_lt a.reference b.reference) (eq-eqb a.act b.act e)
        ∙ lt-ltb a.reference b.reference (h.1 e)
    go (inr (inl l)) = ap (λ t. t || (nat_eq a.act b.act && nat_lt a.reference b.reference)) (lt-ltb a.act b.act l)
    go (inr (inr l)) = let least = h.0 in absurd (omega arith)

pub same_true : (a b : End) → same_end a b ≡ true → (a.act ≡ b.act) × (a.reference ≡ b.reference)
same_true a b h =
    let parts = and_parts (nat_eq a.act b.act) (nat_eq a.reference b.reference) h in
    (eqb-true a.act b.act parts.0, eqb-true a.reference b.reference parts.1)

-- it isn't the same, where that leads to nothing
other_end : (a b : End) → ((a.act ≡ b.act) → (a.reference ≡ b.reference) → ⊥) → same_end a b ≡ false
other_end a b h = go (same_end a b) refl
  where
    go : (t : Bool) → same_end a b ≡ t → same_end a b ≡ false
    go true e = let s = same_true a b e in absurd (h s.0 s.1)
    go false e = e

-- ---- rising lists

abbrev Each : (End → Type 0) → List End → Type 0
Each P [] = Unit {0}
Each P (x ∷ xs) = P x × Each P xs

each_more : (P : End → Type 0) (xs ys : List End) → Each P xs → Each P ys → Each P (xs ++ ys)
each_more P [] ys a b = b
each_more P (x ∷ xs) ys a b = (a.0, each_more P xs ys a.1 b)

each_so : (P Q : End → Type 0) (xs : List End) → ((x : End) → P x → Q x) → Each P xs → Each Q xs
each_so P Q [] f a = tt
each_so P Q (x ∷ xs) f a = (f x a.0, each_so P Q xs f a.1)

each_at : (P : End → Type 0) (xs : List End) (k : ℕ) (d : End) → k < length xs → Each P xs → P (get_or xs k d)
each_at P [] k d l a = absurd (omega arith)
each_at P (x ∷ xs) zero d l a = a.0
each_at P (x ∷ xs) (suc k) d l a = each_at P xs k d (omega arith) a.1

abbrev Rises : List End → Type 0
Rises [] = Unit {0}
Rises (x ∷ xs) = Each (Before x) xs × Rises xs

rises_more : (xs ys : List End) → Rises xs → Rises ys → Each (λ x. Each (Before x) ys) xs → Rises (xs ++ ys)
rises_more [] ys a b c = b
rises_more (x ∷ xs) ys a b c = (each_more (Before x) xs ys a.0 c.0, rises_more xs ys a.1 b c.1)

rising : (xs : List End) → Rises xs → AreRising xs
rising [] h j k d l m = absurd (omega arith)
rising (x ∷ xs) h zero zero d l m = absurd (omega arith)
rising (x ∷ xs) h zero (suc k) d l m = each_at (Before x) xs k d (omega arith) h.0
rising (x ∷ xs) h (suc j) zero d l m = absurd (omega arith)
rising (x ∷ xs) h (suc j) (suc k) d l m = rising xs h.1 j k d (omega arith) (omega arith)

abbrev spots_of : ℕ → ℕ → List Filled → List Spot
spots_of act number references = map (λ e. record { act = act; reference = e.0; filled = e.1 }) (enumerate_from number references)

abbrev spots_from : ℕ → List Act → List Spot
spots_from number acts = flat_map spots_in (enumerate_from number acts)

module _ (t : Spot → Bool) where
  abbrev picked : List Spot → List End
  picked xs = map end_of (filter t xs)

  picked_more : (xs ys : List Spot) → picked (xs ++ ys) ≡ picked xs ++ picked ys
  picked_more xs ys = ap (map end_of) (filter-append t xs ys) ∙ map-append end_of (filter t xs) (filter t ys)

  abbrev In : ℕ → ℕ → End → Type 0
  In act number end = (end.act ≡ act) × (number ≤ end.reference)

  in_each : (act number : ℕ) (xs : List Filled) → Each (In act number) (picked (spots_of act number xs))
  in_each act number [] = tt
  in_each act number (x ∷ xs) = go (t (record { act = act; reference = number; filled = x })) (each_so (In act (number + 1)) (In act number) (picked rest) (λ e h. (h.0, let l = h.1 in omega arith)) (in_each act (number + 1) xs))
    where
      rest : List Spot
      rest = spots_of act (number + 1) xs

      go : (b : Bool) → Each (In act number) (picked rest) → Each (In act number) (map end_of (if b then record { act = act; reference = number; filled = x } ∷ filter t rest else filter t rest))
      go true h = ((refl, omega arith), h)
      go false h = h

  in_rises : (act number : ℕ) (xs : List Filled) → Rises (picked (spots_of act number xs))
  in_rises act number [] = tt
  in_rises act number (x ∷ xs) = go (t (record { act = act; reference = number; filled = x })) (in_rises act (number + 1) xs)
    where
      rest : List Spot
      rest = spots_of act (number + 1) xs

      this : End
      this = record { act = act; reference = number }

      go : (b : Bool) → Rises (picked rest) → Rises (map end_of (if b then record { act = act; reference = number; filled = x } ∷ filter t rest else filter t rest))
      go true h = (each_so (In act (number + 1)) (Before this) (picked rest) (λ e i. let a = i.0 in let l = i.1 in (omega arith, λ s. omega arith)) (in_each act (number + 1) xs), h)
      go false h = h

  abbrev From : ℕ → End → Type 0
  From number end = number ≤ end.act

  from_each : (number : ℕ) (xs : List Act) → Each (From number) (picked (spots_from number xs))
  from_each number [] = tt
  from_each number (x ∷ xs) =
      let later = spots_from (number + 1) xs in
      subst (Each (From number)) (sym (picked_more (spots_of number 0 x.references) later))
      (each_more (From number) (picked (spots_of number 0 x.references)) (picked later)
      (each_so (In number 0) (From number) (picked (spots_of number 0 x.references)) (λ e h. let a = h.0 in omega arith) (in_each number 0 x.references))
      (each_so (From (number + 1)) (From number) (picked later) (λ e h. omega arith) (from_each (number + 1) xs)))

  from_rises : (number : ℕ) (xs : List Act) → Rises (picked (spots_from number xs))
  from_rises number [] = tt
  from_rises number (x ∷ xs) =
      let here = picked (spots_of number 0 x.references) in
      let later = picked (spots_from (number + 1) xs) in
      subst Rises (sym (picked_more (spots_of number 0 x.references) (spots_from (number + 1) xs)))
      (rises_more here later (in_rises number 0 x.references) (from_rises (number + 1) xs)
      (each_so (In number 0) (λ e. Each (Before e) later) here
      (λ e h. each_so (From (number + 1)) (Before e) later (λ f l. let a = h.0 in (omega arith, λ s. let bad : ⊥ = omega arith in absurd bad)) (from_each (number + 1) xs)) (in_each number 0 x.references)))

  pub picked_rise : (acts : List Act) → AreRising (map end_of (filter t (spots acts)))
  picked_rise acts = rising (picked (spots acts)) (from_rises 0 acts)

-- ---- places

pub parted : (ends : List End) (end : End) → AreRising ends → IsPartitionedBy (λ e. is_before e end) ends
parted ends end h i k d le within less = go (cases_Bool (nat_lt i k))
  where
    after : Before (get_or ends k d) end
    after = before_true (get_or ends k d) end less

    go : (nat_lt i k ≡ true) ⊎ (nat_lt i k ≡ false) → is_before (get_or ends i d) end ≡ true
    go (inl e) =
        let up = h i k d (ltb-true i k e) within in
        let low = after in
        before_test (get_or ends i d) end (let a = up.0 in let b = up.1 in let p = low.0 in let q = low.1 in (omega arith, λ s. omega arith))
    go (inr e) = let l : k ≤ i = ltb-false i k e in let same : k ≡ i = omega arith in ap (λ n. is_before (get_or ends n d) end) (sym same) ∙ less

-- one that stands before another is another
earlier : (a end : End) → is_before a end ≡ true → same_end end a ≡ false
earlier a end h = let b = before_true a end h in other_end end a (λ s t. let p = b.1 in let l : a.reference < end.reference = p (sym s) in omega arith)

module _ (ends : List End) (end : End) (place : ℕ) (rising : AreRising ends) (before : (k : ℕ) (d : End) → k < place → is_before (get_or ends k d) end ≡ true) (others : (k : ℕ) (d : End) → place ≤ k → k < length ends → is_before (get_or ends k d) end ≡ false) where
  -- behind the place nothing is the same
  later : (k : ℕ) (d : End) → place < k → k < length ends → same_end end (get_or ends k d) ≡ false
  later k d l m =
      let here = before_false (get_or ends place d) end (others place d (omega arith) (omega arith)) in
      let up = rising place k d l m in
      other_end end (get_or ends k d) (λ s t. let a = here.0 in let b = here.1 in let p = up.0 in let q = up.1 in omega arith)

  pub at_none : length ends ≤ place → (k : ℕ) (d : End) → k < length ends → same_end end (get_or ends k d) ≡ false
  at_none l k d m = earlier (get_or ends k d) end (before k d (omega arith))

  -- the cases of a place
  by_place : (P : ℕ → Type 0) (k : ℕ) → (k < place → P k) → P place → (place < k → P k) → P k
  by_place P k below here above = go (cases_order k place)
    where
      go : (k ≡ place) ⊎ ((k < place) ⊎ (place < k)) → P k
      go (inl e) = subst P (sym e) here
      go (inr (inl l)) = below l
      go (inr (inr l)) = above l

  pub at_other : place < length ends → (x : End) → x ≡ get_or ends place x → same_end end x ≡ false → (k : ℕ) (d : End) → k < length ends → same_end end (get_or ends k d) ≡ false
  at_other l x e h k d m =
      by_place (λ k. k < length ends → same_end end (get_or ends k d) ≡ false) k
      (λ b m. earlier (get_or ends k d) end (before k d b))
      (λ m. ap (same_end end) (get_or_default ends place d x m ∙ sym e) ∙ h)
      (λ a m. later k d a m) m

  pub at_place : place < length ends → (x : End) → x ≡ get_or ends place x → same_end end x ≡ true → (k : ℕ) (d : End) → k < length ends → same_end end (get_or ends k d) ≡ nat_eq place k
  at_place l x e h k d m =
      by_place (λ k. k < length ends → same_end end (get_or ends k d) ≡ nat_eq place k) k
      (λ b m. earlier (get_or ends k d) end (before k d b) ∙ sym (ne_eqb place k (λ s. let bad : ⊥ = omega arith in bad)))
      (λ m. ap (same_end end) (get_or_default ends place d x m ∙ sym e) ∙ h ∙ sym (eq-eqb place place refl))
      (λ a m. later k d a m ∙ sym (ne_eqb place k (λ s. let bad : ⊥ = omega arith in bad))) m
