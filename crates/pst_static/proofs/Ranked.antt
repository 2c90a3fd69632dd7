-- Along what is dealt out the ranks of actions don't fall.
use Rattle.std.proofs.Common.{◌≡◌, ◌⊎◌, ℕ, zero, suc, ◌+◌, ◌<◌, ◌≤◌, List, [], ◌∷◌, ◌++◌, length, get_or, slice_get, Some, refl, sym, ap, ◌∙◌, subst, inl, inr, ⊎_elim, arith, append_assoc, length-append}
use Rattle.std.specs.Prelude.{Contains, zip}
use Rattle.std.proofs.lemmas.List.Elements.{Contains-get_or, Contains-append_cases}
use Rattle.pst_scen.specs.Plan.{Entries, members}
use Rattle.pst_order.specs.Laws.{MembersAreThose}
use Rattle.pst_book.proofs.Elements.{none_in}
use Rattle.pst_programs.specs.Serial.{group_of, IsSerial}
use Rattle.pst_programs.specs.Lanes.{Dealt, Deals, Done, Then}
use Rattle.pst_programs.proofs.Places.{none_some}
use Rattle.pst_programs.proofs.Ranks.{index_of, rank, index_at}
use Rattle.pst_programs.proofs.Dealing.{zip_in}
use Rattle.pst_programs.proofs.Written.{of_get}

get_cases : (xs ys : Dealt) (k : ℕ) (d : ℕ × ℕ) → slice_get (xs ++ ys) k ≡ Some d → (slice_get xs k ≡ Some d) ⊎ ((i : ℕ) × (k ≡ length xs + i) × (slice_get ys i ≡ Some d))
get_cases [] ys k d e = inr (k, omega arith, e)
get_cases (x ∷ xs) ys zero d e = inl e
get_cases (x ∷ xs) ys (suc k) d e = ⊎_elim (λ q. inl q) (λ q. let l = q.1 in inr (q.0, omega (arith, l), q.2)) (get_cases xs ys k d e)

get_inside : (xs : Dealt) (k : ℕ) (d : ℕ × ℕ) → slice_get xs k ≡ Some d → k < length xs
get_inside [] k d e = absurd (none_some d e)
get_inside (x ∷ xs) zero d e = omega arith
get_inside (x ∷ xs) (suc k) d e = let l = get_inside xs k d e in omega (arith, l)

module _ (f : ℕ → ℕ) where
  abbrev pub Ordered : Dealt → Type 0
  Ordered dealt = (x l y m i j : ℕ) → slice_get dealt i ≡ Some (x, l) → slice_get dealt j ≡ Some (y, m) → i < j → f x ≤ f y

  -- behind lesser ones those of one rank
  ordered_more : (xs ys : Dealt) (r : ℕ) → Ordered xs → ((x l : ℕ) → Contains xs (x, l) → f x < r) → ((x l : ℕ) → Contains ys (x, l) → f x ≡ r) → Ordered (xs ++ ys)
  ordered_more xs ys r o below same x l y m i j a b h =
      ⊎_elim
      (λ p. ⊎_elim (λ q. o x l y m i j p q h)
      (λ q. let u = below x l (of_get xs i (x, l) p) in let v = same y m (of_get ys q.0 (y, m) q.2) in omega (arith, u, v))
      (get_cases xs ys j (y, m) b))
      (λ p. ⊎_elim (λ q. let k = get_inside xs j (y, m) q in let e = p.1 in absurd (omega (arith, k, e, h)))
      (λ q. let u = same x l (of_get ys p.0 (x, l) p.2) in let v = same y m (of_get ys q.0 (y, m) q.2) in omega (arith, u, v))
      (get_cases xs ys j (y, m) b))
      (get_cases xs ys i (x, l) a)

module _ (p : Entries) (lanes : ℕ) (order : List ℕ) (serial : IsSerial p order) (those : MembersAreThose) where
  abbrev rank_of : ℕ → ℕ
  rank_of x = rank p order serial x

  length_more : (xs ys : List ℕ) (y : ℕ) → length xs < length (xs ++ y ∷ ys)
  length_more [] ys y = omega arith
  length_more (x ∷ xs) ys y = let r = length_more xs ys y in omega (arith, r)

  get_at : (xs ys : List ℕ) (y : ℕ) → get_or (xs ++ y ∷ ys) (length xs) 0 ≡ y
  get_at [] ys y = refl
  get_at (x ∷ xs) ys y = get_at xs ys y

  group_at : (taken more : List ℕ) (group : ℕ) → taken ++ group ∷ more ≡ order → index_of order group ≡ length taken
  group_at taken more group is =
      let l : length taken < length order = subst (λ v. length taken < length v) is (length_more taken more group) in
      let e : get_or order (length taken) 0 ≡ group = subst (λ v. get_or v (length taken) 0 ≡ group) is (get_at taken more group) in
      ap (index_of order) (sym e) ∙ index_at p order serial (length taken) l

  of_new : (group : ℕ) (used : List ℕ) (x l : ℕ) → Contains (zip (members p.groups group) used) (x, l) → group_of p x ≡ group
  of_new group used x l c =
      let r = zip_in (members p.groups group) used x l c in
      ((those p.groups group x).0 (subst (λ v. Contains (members p.groups group) v) r.3 (Contains-get_or (members p.groups group) r.0 0 r.1))).1

  all_ordered : (before : Dealt) (rest : List ℕ) (after : Dealt) → Deals p lanes before rest after → (taken : List ℕ) → taken ++ rest ≡ order
      → ((x l : ℕ) → Contains before (x, l) → rank_of x < length taken) → Ordered rank_of before → Ordered rank_of after
  all_ordered _ _ _ (Done dealt) taken is below o = o
  all_ordered _ _ _ (Then dealt after group more used fewest deals) taken is below o =
      let new = zip (members p.groups group) used in
      let r = group_at taken more group is in
      let same : (x l : ℕ) → Contains new (x, l) → rank_of x ≡ length taken = λ x l c. ap (index_of order) (of_new group used x l c) ∙ r in
      let long : length (taken ++ group ∷ []) ≡ length taken + 1 = length-append taken (group ∷ []) in
      all_ordered (dealt ++ new) more after deals (taken ++ group ∷ []) (append_assoc taken (group ∷ []) more ∙ is)
      (λ x l c. ⊎_elim (λ k. let b = below x l k in omega (arith, b, long)) (λ k. let b = same x l k in omega (arith, b, long)) (Contains-append_cases dealt new (x, l) c))
      (ordered_more rank_of dealt new (length taken) o below same)

  pub ranks_rise : (dealt : Dealt) → Deals p lanes [] order dealt → Ordered rank_of dealt
  ranks_rise dealt deals = all_ordered [] order dealt deals [] refl (λ x l c. absurd (none_in (x, l) c)) (λ x l y m i j a b h. absurd (none_some (x, l) a))
