-- The rank of an action: the place of its group in the serial order.
use Rattle.std.proofs.Common.{◌≡◌, ℕ, zero, suc, ◌<◌, ◌≤◌, List, [], ◌∷◌, length, get_or, take, Bool, true, false, refl, sym, ap, ◌∙◌, subst, ⊎_elim, arith}
use Rattle.std.specs.Prelude.{Contains, nat_eq, if◌then◌else◌}
use Rattle.std.proofs.lemmas.List.Elements.{Contains-get_or}
use Rattle.std.proofs.lemmas.Bool.{cases_lt, eqb-true, eqb-false}
use Rattle.pst_scen.specs.Rows.{Has}
use Rattle.pst_scen.specs.Plan.{Entries}
use Rattle.pst_programs.specs.Serial.{group_of, IsSerial, IsEarlier}
use Rattle.pst_programs.proofs.Elements.{none_in, cons_cases, cons_first, cons_rest}

abbrev step : Bool → ℕ → ℕ
step b n = if b then 0 else suc n

abbrev pub index_of : List ℕ → ℕ → ℕ
index_of [] g = 0
index_of (x ∷ xs) g = if nat_eq x g then 0 else suc (index_of xs g)

index_in : (xs : List ℕ) (g : ℕ) → Contains xs g → (index_of xs g < length xs) × (get_or xs (index_of xs g) 0 ≡ g)
index_in [] g c = absurd (none_in g c)
index_in (x ∷ xs) g c = by_test (λ k. index_in xs g k) (nat_eq x g) refl
  where
    by_test : (Contains xs g → (index_of xs g < length xs) × (get_or xs (index_of xs g) 0 ≡ g)) → (b : Bool) → nat_eq x g ≡ b → (step b (index_of xs g) < suc (length xs)) × (get_or (x ∷ xs) (step b (index_of xs g)) 0 ≡ g)
    by_test later true e = (omega arith, eqb-true x g e)
    by_test later false e =
        ⊎_elim (λ q. absurd (eqb-false x g e q))
        (λ k. let r = later k in let l = r.0 in (omega (arith, l), r.1)) (cons_cases x g xs c)

index_le : (xs : List ℕ) (g k : ℕ) → k < length xs → get_or xs k 0 ≡ g → index_of xs g ≤ k
index_le [] g k l e = absurd (omega (arith, l))
index_le (x ∷ xs) g k l e = by_test (λ j m f. index_le xs g j m f) (nat_eq x g) refl k l e
  where
    by_test : ((j : ℕ) → j < length xs → get_or xs j 0 ≡ g → index_of xs g ≤ j) → (b : Bool) → nat_eq x g ≡ b → (k : ℕ) → k < suc (length xs) → get_or (x ∷ xs) k 0 ≡ g → step b (index_of xs g) ≤ k
    by_test later true f k l e = omega arith
    by_test later false f zero l e = absurd (eqb-false x g f e)
    by_test later false f (suc k) l e = let r = later k (omega (arith, l)) e in omega (arith, r)

pub in_take : (xs : List ℕ) (k j : ℕ) → k < j → k < length xs → Contains (take j xs) (get_or xs k 0)
in_take [] k j h l = absurd (omega (arith, l))
in_take (x ∷ xs) k zero h l = absurd (omega (arith, h))
in_take (x ∷ xs) zero (suc j) h l = cons_first x (take j xs)
in_take (x ∷ xs) (suc k) (suc j) h l = cons_rest x (get_or xs k 0) (take j xs) (in_take xs k j (omega (arith, h)) (omega (arith, l)))

pub of_take : (xs : List ℕ) (j g : ℕ) → Contains (take j xs) g → (k : ℕ) × (k < j) × (k < length xs) × (get_or xs k 0 ≡ g)
of_take xs zero g c = absurd (none_in g c)
of_take [] (suc j) g c = absurd (none_in g c)
of_take (x ∷ xs) (suc j) g c =
    ⊎_elim (λ e. (0, omega arith, omega arith, e))
    (λ k. let r = of_take xs j g k in let a = r.1 in let b = r.2 in (suc r.0, omega (arith, a), omega (arith, b), r.3)) (cons_cases x g (take j xs) c)

module _ (p : Entries) (order : List ℕ) (serial : IsSerial p order) where
  abbrev pub rank : ℕ → ℕ
  rank a = index_of order (group_of p a)

  pub distinct : (i j : ℕ) → i < j → j < length order → get_or order i 0 ≡ get_or order j 0 → ⊥
  distinct i j h l e = (serial.each j l).is_open.fresh (subst (λ v. Contains (take j order) v) e (in_take order i j h (omega (arith, h, l))))

  pub index_at : (k : ℕ) → k < length order → index_of order (get_or order k 0) ≡ k
  index_at k l =
      let g = get_or order k 0 in
      let le = index_le order g k l refl in
      ⊎_elim (λ h. absurd (distinct (index_of order g) k h l (index_in order g (Contains-get_or order k 0 l)).1)) (λ h. omega (arith, h, le)) (cases_lt (index_of order g) k)

  pub rank_in : (a : ℕ) → a < length p.groups → (rank a < length order) × (get_or order (rank a) 0 ≡ group_of p a)
  rank_in a l = index_in order (group_of p a) (serial.all a l)

  pub one_group : (a b : ℕ) → a < length p.groups → b < length p.groups → rank a ≡ rank b → group_of p a ≡ group_of p b
  one_group a b l m e = sym (rank_in a l).1 ∙ ap (λ k. get_or order k 0) e ∙ (rank_in b m).1

  pub lesser : (a b : ℕ) → a < length p.groups → b < length p.groups → Has p.must a b → rank a < rank b
  lesser a b l m h =
      let r = rank_in b m in
      let t = (serial.each (rank b) r.0).is_open.ready a b l m (sym r.1) h in
      let o = of_take order (rank b) (group_of p a) t in
      let le = index_le order (group_of p a) o.0 o.2 o.3 in
      let lt = o.1 in
      omega (arith, le, lt)

  pub earlier : (a b : ℕ) → a < length p.groups → b < length p.groups → rank a < rank b → IsEarlier order (group_of p a) (group_of p b)
  earlier a b l m h = record { first = rank a; second = rank b; rising = h; below = (rank_in b m).0; is_first = (rank_in a l).1; is_second = (rank_in b m).1 }

  pub of_earlier : (a b : ℕ) → IsEarlier order (group_of p a) (group_of p b) → rank a < rank b
  of_earlier a b e =
      let r = e.rising in
      let w = e.below in
      let le = index_le order (group_of p a) e.first (omega (arith, r, w)) e.is_first in
      let q : rank b ≡ e.second = ap (index_of order) (sym e.is_second) ∙ index_at e.second w in
      omega (arith, le, q, r)
