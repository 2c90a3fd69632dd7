-- Which lane has which action.
use Rattle.std.proofs.Common.{◌≡◌, ℕ, zero, suc, ◌<◌, List, [], ◌∷◌, ◌++◌, length, get_or, Bool, true, false, refl, sym, ap, ◌∙◌, subst, ⊎_elim, arith, append_assoc}
use Rattle.std.specs.Prelude.{Contains, nat_eq, if◌then◌else◌, zip}
use Rattle.std.proofs.lemmas.List.Elements.{Contains-get_or, Contains-append_left, Contains-append_right, Contains-append_cases}
use Rattle.std.proofs.lemmas.Bool.{cases_order, eqb-true, eqb-false}
use Rattle.pst_scen.specs.Plan.{Entries, members}
use Rattle.pst_order.specs.Laws.{MembersAreThose}
use Rattle.pst_programs.specs.Serial.{group_of, IsSerial}
use Rattle.pst_programs.specs.Lanes.{Dealt, load, on_lane, AreFewest, Deals, Done, Then}
use Rattle.pst_programs.proofs.Elements.{none_in, cons_cases, cons_first, cons_rest, place_of}
use Rattle.pst_programs.proofs.Ranks.{index_of, rank, index_at}

-- ---- the actions of a lane

step : Bool → ℕ → List ℕ → List ℕ
step b a xs = if b then a ∷ xs else xs

pub on_contains : (dealt : Dealt) (l a : ℕ) → Contains (on_lane dealt l) a → Contains dealt (a, l)
on_contains [] l a c = absurd (none_in a c)
on_contains (d ∷ more) l a c = by_test (λ k. on_contains more l a k) (nat_eq l d.1) refl c
  where
    by_test : (Contains (on_lane more l) a → Contains more (a, l)) → (b : Bool) → nat_eq l d.1 ≡ b → Contains (if b then d.0 ∷ on_lane more l else on_lane more l) a → Contains (d ∷ more) (a, l)
    by_test later true e c =
        ⊎_elim (λ q. let r : d ≡ (a, l) = (λ i. (q i, sym (eqb-true l d.1 e) i)) in subst (λ v. Contains (d ∷ more) v) r (cons_first d more))
        (λ k. cons_rest d (a, l) more (later k)) (cons_cases d.0 a (on_lane more l) c)
    by_test later false e c = cons_rest d (a, l) more (later c)

pub contains_on : (dealt : Dealt) (l a : ℕ) → Contains dealt (a, l) → Contains (on_lane dealt l) a
contains_on [] l a c = absurd (none_in (a, l) c)
contains_on (d ∷ more) l a c = by_test (λ k. contains_on more l a k) (nat_eq l d.1) refl
  where
    by_test : (Contains more (a, l) → Contains (on_lane more l) a) → (b : Bool) → nat_eq l d.1 ≡ b → Contains (if b then d.0 ∷ on_lane more l else on_lane more l) a
    by_test later true e = ⊎_elim (λ q. subst (λ v. Contains (d.0 ∷ on_lane more l) v) (ap (λ w. w.0) q) (cons_first d.0 (on_lane more l))) (λ k. cons_rest d.0 a (on_lane more l) (later k)) (cons_cases d (a, l) more c)
    by_test later false e = ⊎_elim (λ q. absurd (eqb-false l d.1 e (sym (ap (λ w. w.1) q)))) (λ k. later k) (cons_cases d (a, l) more c)

pub on_more : (dealt more : Dealt) (l : ℕ) → on_lane (dealt ++ more) l ≡ on_lane dealt l ++ on_lane more l
on_more [] more l = refl
on_more (d ∷ rest) more l = by_test (nat_eq l d.1) (on_more rest more l)
  where
    by_test : (b : Bool) → on_lane (rest ++ more) l ≡ on_lane rest l ++ on_lane more l → (if b then d.0 ∷ on_lane (rest ++ more) l else on_lane (rest ++ more) l) ≡ (if b then d.0 ∷ on_lane rest l else on_lane rest l) ++ on_lane more l
    by_test true e = ap (λ xs. d.0 ∷ xs) e
    by_test false e = e

-- ---- rising lists

module _ (f : ℕ → ℕ) where
  abbrev pub Rising : List ℕ → Type 0
  Rising [] = Unit {0}
  Rising (x ∷ xs) = ((y : ℕ) → Contains xs y → f x < f y) × Rising xs

  pub rising_more : (xs ys : List ℕ) → Rising xs → Rising ys → ((x y : ℕ) → Contains xs x → Contains ys y → f x < f y) → Rising (xs ++ ys)
  rising_more [] ys r q h = q
  rising_more (x ∷ xs) ys r q h =
      (λ y c. ⊎_elim (λ k. r.0 y k) (λ k. h x y (cons_first x xs) k) (Contains-append_cases xs ys y c), rising_more xs ys r.1 q (λ a b c k. h a b (cons_rest x a xs c) k))

-- ---- members and lanes side by side

pub zip_in : (ms us : List ℕ) (a l : ℕ) → Contains (zip ms us) (a, l) → (i : ℕ) × (i < length ms) × (i < length us) × (get_or ms i 0 ≡ a) × (get_or us i 0 ≡ l)
zip_in [] us a l c = absurd (none_in (a, l) c)
zip_in (m ∷ ms) [] a l c = absurd (none_in (a, l) c)
zip_in (m ∷ ms) (u ∷ us) a l c =
    ⊎_elim (λ e. (0, omega arith, omega arith, ap (λ w. w.0) e, ap (λ w. w.1) e))
    (λ k. let r = zip_in ms us a l k in let p = r.1 in let q = r.2 in (suc r.0, omega (arith, p), omega (arith, q), r.3, r.4)) (cons_cases (m, u) (a, l) (zip ms us) c)

pub in_zip : (ms us : List ℕ) (i : ℕ) → i < length ms → i < length us → Contains (zip ms us) (get_or ms i 0, get_or us i 0)
in_zip [] us i p q = absurd (omega (arith, p))
in_zip (m ∷ ms) [] i p q = absurd (omega (arith, q))
in_zip (m ∷ ms) (u ∷ us) zero p q = cons_first (m, u) (zip ms us)
in_zip (m ∷ ms) (u ∷ us) (suc i) p q = cons_rest (m, u) (get_or ms i 0, get_or us i 0) (zip ms us) (in_zip ms us i (omega (arith, p)) (omega (arith, q)))

abbrev Distinct : List ℕ → Type 0
Distinct us = (i j : ℕ) → i < j → j < length us → get_or us i 0 ≡ get_or us j 0 → ⊥

one_on : (f : ℕ → ℕ) (ms us : List ℕ) (l : ℕ) → Distinct us → Rising f (on_lane (zip ms us) l)
one_on f [] us l d = tt
one_on f (m ∷ ms) [] l d = tt
one_on f (m ∷ ms) (u ∷ us) l d = by_test (one_on f ms us l (λ i j h k. d (suc i) (suc j) (omega (arith, h)) (omega (arith, k)))) (nat_eq l u) refl
  where
    by_test : Rising f (on_lane (zip ms us) l) → (b : Bool) → nat_eq l u ≡ b → Rising f (if b then m ∷ on_lane (zip ms us) l else on_lane (zip ms us) l)
    by_test later true e = (
      λ y c.
          let r = zip_in ms us y l (on_contains (zip ms us) l y c) in
          let k = r.2 in
          absurd (d 0 (suc r.0) (omega arith) (omega (arith, k)) (sym (eqb-true l u e) ∙ sym r.4)),
      later,
    )
    by_test later false e = later

module _ (p : Entries) (lanes : ℕ) (order : List ℕ) (serial : IsSerial p order) (those : MembersAreThose)
    (ascends : (g i j : ℕ) → i < j → j < length (members p.groups g) → get_or (members p.groups g) i 0 < get_or (members p.groups g) j 0) where
  pub record IsDealt (taken : List ℕ) (dealt : Dealt) : Type 0 where
    pub inside : (a l : ℕ) → Contains dealt (a, l) → (a < length p.groups) × (l < lanes) × Contains taken (group_of p a)
    pub some : (a : ℕ) → a < length p.groups → Contains taken (group_of p a) → (l : ℕ) × Contains dealt (a, l)
    pub only : (a l m : ℕ) → Contains dealt (a, l) → Contains dealt (a, m) → l ≡ m
    pub rising : (l : ℕ) → Rising (rank p order serial) (on_lane dealt l)

  none_dealt : IsDealt [] []
  none_dealt = record { inside = λ a l c. absurd (none_in (a, l) c); some = λ a m c. absurd (none_in (group_of p a) c); only = λ a l m c k. absurd (none_in (a, l) c); rising = λ l. tt }

  module _ (taken more : List ℕ) (group : ℕ) (dealt : Dealt) (us : List ℕ) (is : taken ++ group ∷ more ≡ order) (is_dealt : IsDealt taken dealt) (fewest : AreFewest lanes dealt (length (members p.groups group)) us) where
    abbrev ms : List ℕ
    ms = members p.groups group

    lanes_differ : Distinct us
    lanes_differ i j h k e =
        ⊎_elim (λ q. let x : load dealt (get_or us i 0) ≡ load dealt (get_or us j 0) = ap (load dealt) e in omega (arith, q, x)) (λ q. let y = q.1 in omega (arith, y, e)) (fewest.ascending i j h k)

    length_more : (xs ys : List ℕ) (y : ℕ) → length xs < length (xs ++ y ∷ ys)
    length_more [] ys y = omega arith
    length_more (x ∷ xs) ys y = let r = length_more xs ys y in omega (arith, r)

    get_at : (xs ys : List ℕ) (y : ℕ) → get_or (xs ++ y ∷ ys) (length xs) 0 ≡ y
    get_at [] ys y = refl
    get_at (x ∷ xs) ys y = get_at xs ys y

    get_left : (xs ys : List ℕ) (k : ℕ) → k < length xs → get_or (xs ++ ys) k 0 ≡ get_or xs k 0
    get_left [] ys k l = absurd (omega (arith, l))
    get_left (x ∷ xs) ys zero l = refl
    get_left (x ∷ xs) ys (suc k) l = get_left xs ys k (omega (arith, l))

    group_at : index_of order group ≡ length taken
    group_at =
        let l : length taken < length order = subst (λ v. length taken < length v) is (length_more taken more group) in
        let e : get_or order (length taken) 0 ≡ group = subst (λ v. get_or v (length taken) 0 ≡ group) is (get_at taken more group) in
        ap (index_of order) (sym e) ∙ index_at p order serial (length taken) l

    taken_at : (g : ℕ) → Contains taken g → index_of order g < length taken
    taken_at g c =
        let k = place_of taken g c in
        let l = length_more taken more group in
        let l' : k.0 < length order = subst (λ v. k.0 < length v) is (let h = k.1 in omega (arith, l, h)) in
        let e : get_or order k.0 0 ≡ g = subst (λ v. get_or v k.0 0 ≡ g) is (get_left taken (group ∷ more) k.0 k.1 ∙ k.2) in
        let q : index_of order g ≡ k.0 = ap (index_of order) (sym e) ∙ index_at p order serial k.0 l' in
        let h = k.1 in
        omega (arith, q, h)

    fresh : Contains taken group → ⊥
    fresh c = let a = taken_at group c in let b = group_at in omega (arith, a, b)

    of_new : (a l : ℕ) → Contains (zip ms us) (a, l) → (a < length p.groups) × (group_of p a ≡ group) × (l < lanes)
    of_new a l c =
        let r = zip_in ms us a l c in
        let t = (those p.groups group a).0 (subst (λ v. Contains ms v) r.3 (Contains-get_or ms r.0 0 r.1)) in
        (t.0, t.1, fewest.below l (subst (λ v. Contains us v) r.4 (Contains-get_or us r.0 0 r.2)))

    pub dealt_more : IsDealt (taken ++ group ∷ []) (dealt ++ zip ms us)
    dealt_more =
        record {
          inside = λ a l c.
              ⊎_elim (λ k. let r = is_dealt.inside a l k in (r.0, r.1, Contains-append_left taken (group ∷ []) (group_of p a) r.2))
              (λ k. let r = of_new a l k in (r.0, r.2, Contains-append_right taken (group ∷ []) (group_of p a) (subst (λ v. Contains (group ∷ []) v) (sym r.1) (cons_first group []))))
              (Contains-append_cases dealt (zip ms us) (a, l) c);
          some = λ a h c.
              ⊎_elim (λ k. let r = is_dealt.some a h k in (r.0, Contains-append_left dealt (zip ms us) (a, r.0) r.1))
              (λ k. let e : group ≡ group_of p a = ⊎_elim (λ q. q) (λ q. absurd (none_in (group_of p a) q)) (cons_cases group (group_of p a) [] k) in
              let i = place_of ms a ((those p.groups group a).1 (h, sym e)) in
              let il = i.1 in
              let many = fewest.as_many in
              let z = in_zip ms us i.0 i.1 (omega (arith, il, many)) in
              (get_or us i.0 0, Contains-append_right dealt (zip ms us) (a, get_or us i.0 0) (subst (λ v. Contains (zip ms us) (v, get_or us i.0 0)) i.2 z)))
              (Contains-append_cases taken (group ∷ []) (group_of p a) c);
          only = λ a l m c k.
              ⊎_elim
              (λ x. ⊎_elim (λ y. is_dealt.only a l m x y) (λ y. absurd (fresh (subst (λ v. Contains taken v) (of_new a m y).1 (is_dealt.inside a l x).2))) (Contains-append_cases dealt (zip ms us) (a, m) k))
              (λ x. ⊎_elim (λ y. absurd (fresh (subst (λ v. Contains taken v) (of_new a l x).1 (is_dealt.inside a m y).2))) (λ y. same a l m (zip_in ms us a l x) (zip_in ms us a m y)) (Contains-append_cases dealt (zip ms us) (a, m) k))
              (Contains-append_cases dealt (zip ms us) (a, l) c);
          rising = λ l. subst (Rising (rank p order serial)) (sym (on_more dealt (zip ms us) l))
              (rising_more (rank p order serial) (on_lane dealt l) (on_lane (zip ms us) l) (is_dealt.rising l) (one_on (rank p order serial) ms us l lanes_differ)
              (λ x y c k. let a = taken_at (group_of p x) (is_dealt.inside x l (on_contains dealt l x c)).2 in
              let e : rank p order serial y ≡ length taken = ap (index_of order) (of_new y l (on_contains (zip ms us) l y k)).1 ∙ group_at in
              omega (arith, a, e)));
        }
      where
        -- one member stands once among the members
        same : (a l m : ℕ) → (i : ℕ) × (i < length ms) × (i < length us) × (get_or ms i 0 ≡ a) × (get_or us i 0 ≡ l)
            → (i : ℕ) × (i < length ms) × (i < length us) × (get_or ms i 0 ≡ a) × (get_or us i 0 ≡ m) → l ≡ m
        same a l m (i, i1, i2, i3, i4) (j, j1, j2, j3, j4) =
            ⊎_elim (λ e. sym i4 ∙ ap (λ k. get_or us k 0) e ∙ j4)
            (λ o. ⊎_elim (λ h. let q = ascends group i j h j1 in absurd (omega (arith, q, i3, j3))) (λ h. let q = ascends group j i h i1 in absurd (omega (arith, q, i3, j3))) o)
            (cases_order i j)

  pub all_dealt : (before : Dealt) (rest : List ℕ) (after : Dealt) → Deals p lanes before rest after → (taken : List ℕ) → taken ++ rest ≡ order → IsDealt taken before → IsDealt order after
  all_dealt _ _ _ (Done dealt) taken is d = subst (λ v. IsDealt v dealt) (sym (append_nil taken) ∙ is) d
    where
      append_nil : (xs : List ℕ) → xs ++ [] ≡ xs
      append_nil [] = refl
      append_nil (x ∷ xs) = ap (λ v. x ∷ v) (append_nil xs)
  all_dealt _ _ _ (Then dealt after group more us fewest deals) taken is d =
      all_dealt (dealt ++ zip (members p.groups group) us) more after deals (taken ++ group ∷ []) (append_assoc taken (group ∷ []) more ∙ is) (dealt_more taken more group dealt us is d fewest)

  pub whole_dealt : (dealt : Dealt) → Deals p lanes [] order dealt → IsDealt order dealt
  whole_dealt dealt deals = all_dealt [] order dealt deals [] refl none_dealt
