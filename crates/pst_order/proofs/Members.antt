-- The members of a plan's groups are whole groups.
use Rattle.std.proofs.Common.{◌≡◌, ◌⊎◌, ℕ, zero, suc, ◌+◌, ◌<◌, ◌≤◌, List, [], ◌∷◌, length, get_or, max, Bool, true, false, refl, sym, ap, ◌∙◌, subst, inl, inr, ⊎_elim, arith}
use Rattle.std.specs.Prelude.{Contains, nat_eq, count_by, cond, if◌then◌else◌}
use Rattle.std.proofs.lemmas.List.Recursion.{is_count_by}
use Rattle.std.proofs.lemmas.Bool.{eqb-true, eq-eqb, cases_lt, cases_eq}
use Rattle.std.proofs.lemmas.List.Elements.{Contains-get_or}
use Rattle.pst_scen.specs.declared.rows.Rows.{Rows}
use Rattle.pst_scen.specs.declared.scenario.Scenario.{Scenario}
use Rattle.pst_scen.specs.Order.{Together, Must}
use Rattle.pst_scen.specs.Trace.{IsWholeGroup}
use Rattle.pst_scen.specs.Rows.{Has}
use Rattle.pst_scen.specs.Plan.{Entries, places_from, members, member_count, widest_among, widest}
use Rattle.pst_scen.specs.Plans.{AreEntriesOf}
use Rattle.pst_order.proofs.Elements.{none_in, cons_cases, cons_first, cons_rest, place_of}
use Rattle.pst_order.proofs.Lists.{Ascending}
use Rattle.pst_order.proofs.Joined.{group_along, group_back}

-- PLACES

abbrev step : Bool → ℕ → List ℕ → List ℕ
step b x xs = if b then x ∷ xs else xs

abbrev At : List ℕ → ℕ → ℕ → ℕ → Type 0
At xs i g a = (j : ℕ) × (a ≡ i + j) × (j < length xs) × (get_or xs j 0 ≡ g)

at_later : (x : ℕ) (xs : List ℕ) (i g a : ℕ) → At xs (suc i) g a → At (x ∷ xs) i g a
at_later x xs i g a r = let l : r.0 < length xs = r.2 in (suc r.0, omega (arith, r.1), omega (arith, l), r.3)

pub places_in : (xs : List ℕ) (i g a : ℕ) → Contains (places_from xs i g) a → At xs i g a
places_in [] i g a h = absurd (none_in a h)
places_in (x ∷ xs) i g a h = by_test (λ k. at_later x xs i g a (places_in xs (suc i) g a k)) (nat_eq g x) refl h
  where
    by_test : (Contains (places_from xs (suc i) g) a → At (x ∷ xs) i g a) → (b : Bool) → nat_eq g x ≡ b → Contains (step b i (places_from xs (suc i) g)) a → At (x ∷ xs) i g a
    by_test later true t k = ⊎_elim (λ e. (0, omega (arith, e), omega arith, sym (eqb-true g x t))) later (cons_cases i a (places_from xs (suc i) g) k)
    by_test later false t k = later k

pub in_places : (xs : List ℕ) (i g j : ℕ) → j < length xs → get_or xs j 0 ≡ g → Contains (places_from xs i g) (i + j)
in_places [] i g j l e = absurd (omega (arith, l))
in_places (x ∷ xs) i g zero l e = by_test (nat_eq g x) (eq-eqb g x (sym e))
  where
    by_test : (b : Bool) → b ≡ true → Contains (step b i (places_from xs (suc i) g)) (i + 0)
    by_test true t = let z : i ≡ i + 0 = omega arith in subst (λ v. Contains (i ∷ places_from xs (suc i) g) v) z (cons_first i (places_from xs (suc i) g))
    by_test false t = cc
in_places (x ∷ xs) i g (suc j) l e =
    let z : suc i + j ≡ i + suc j = omega arith in
    by_test (subst (λ v. Contains (places_from xs (suc i) g) v) z (in_places xs (suc i) g j (omega (arith, l)) e)) (nat_eq g x)
  where
    by_test : Contains (places_from xs (suc i) g) (i + suc j) → (b : Bool) → Contains (step b i (places_from xs (suc i) g)) (i + suc j)
    by_test rest true = cons_rest i (i + suc j) (places_from xs (suc i) g) rest
    by_test rest false = rest

ascending_cons : (x : ℕ) (xs : List ℕ) → ((z : ℕ) → Contains xs z → x < z) → Ascending xs → Ascending (x ∷ xs)
ascending_cons x xs below up i zero l m = absurd (omega (arith, l))
ascending_cons x xs below up zero (suc j) l m = below (get_or xs j 0) (Contains-get_or xs j 0 (omega (arith, m)))
ascending_cons x xs below up (suc i) (suc j) l m = up i j (omega (arith, l)) (omega (arith, m))

pub places_ascending : (xs : List ℕ) (i g : ℕ) → Ascending (places_from xs i g)
places_ascending [] i g = λ a b l m. absurd (omega (arith, m))
places_ascending (x ∷ xs) i g = by_test (places_ascending xs (suc i) g) (nat_eq g x)
  where
    by_test : Ascending (places_from xs (suc i) g) → (b : Bool) → Ascending (step b i (places_from xs (suc i) g))
    by_test up true = ascending_cons i (places_from xs (suc i) g) (λ z c. let r = places_in xs (suc i) g z c in omega (arith, r.1)) up
    by_test up false = up

-- how often the number stands in the list
abbrev times : ℕ → List ℕ → ℕ
times g [] = 0
times g (x ∷ xs) = cond (nat_eq g x) (1 + times g xs) (times g xs)

length_times : (xs : List ℕ) (i g : ℕ) → length (places_from xs i g) ≡ times g xs
length_times [] i g = refl
length_times (x ∷ xs) i g = by_test (length_times xs (suc i) g) (nat_eq g x)
  where
    by_test : length (places_from xs (suc i) g) ≡ times g xs → (b : Bool) → length (step b i (places_from xs (suc i) g)) ≡ cond b (1 + times g xs) (times g xs)
    by_test e true = omega (arith, e)
    by_test e false = e

pub length-places : (xs : List ℕ) (i g : ℕ) → length (places_from xs i g) ≡ count_by (nat_eq g) xs
length-places xs i g = length_times xs i g ∙ is_count_by (times g) (nat_eq g) refl (λ y ys. refl) xs

pub widest_le : (groups xs : List ℕ) (g : ℕ) → Contains xs g → member_count groups g ≤ widest_among groups xs
widest_le groups [] g h = absurd (none_in g h)
widest_le groups (x ∷ xs) g h =
    ⊎_elim (λ e. subst (λ v. member_count groups v ≤ max (member_count groups x) (widest_among groups xs)) e (omega arith))
    (λ k. let l = widest_le groups xs g k in omega (arith, l)) (cons_cases x g xs h)

-- WHOLE GROUPS

module _ (s : Scenario) (p : Entries) (are : AreEntriesOf s p) where
  abbrev pub number : ℕ → ℕ
  number a = get_or p.groups a 0

  -- one group has one number
  pub same_number : (a b : ℕ) → a < length s.actions → b < length s.actions → Together s a b → number a ≡ number b
  same_number a b l m g =
      let x = are.group a l in
      let y = are.group b m in
      let up = x.least (number b) (group_along g y.member) in
      let down = y.least (number a) (group_along (group_back g) x.member) in
      omega (arith, up, down)

  pub one_number : (a b : ℕ) → a < length s.actions → b < length s.actions → number a ≡ number b → Together s a b
  one_number a b l m e =
      group_along (are.group a l).member (group_back (subst (λ v. Together s b v) (sym e) (are.group b m).member))

  pub member_in : (g a : ℕ) → Contains (members p.groups g) a → (a < length s.actions) × (number a ≡ g)
  member_in g a h =
      let r = places_in p.groups 0 g a h in
      let z : r.0 ≡ a = omega (arith, r.1) in
      let l : r.0 < length p.groups = r.2 in
      (omega (arith, l, are.many, z), ap (λ i. get_or p.groups i 0) (sym z) ∙ r.3)

  pub in_members : (g a : ℕ) → a < length s.actions → number a ≡ g → Contains (members p.groups g) a
  in_members g a l e =
      let z : 0 + a ≡ a = omega arith in
      subst (λ v. Contains (members p.groups g) v) z (in_places p.groups 0 g a (omega (arith, l, are.many)) e)

  pub whole_group : ((a b : ℕ) → a < length s.actions → Together s a b → b < length s.actions) → (a : ℕ) → a < length s.actions → IsWholeGroup s (members p.groups (number a)) × Contains (members p.groups (number a)) a
  whole_group inside a l =
      let ms = members p.groups (number a) in
      let has = in_members (number a) a l refl in (
        record {
          some = let r = place_of ms a has in omega (arith, r.1);
          ascending = places_ascending p.groups 0 (number a);
          inside = λ b h. (member_in (number a) b h).0;
          one = λ b c h k. let x = member_in (number a) b h in let y = member_in (number a) c k in one_number b c x.0 y.0 (x.1 ∙ sym y.1);
          whole = λ b c h g.
              let x = member_in (number a) b h in
              let m = inside b c x.0 g in
              in_members (number a) c m (sym (same_number b c x.0 m g) ∙ x.1);
        },
        has,
      )

  pub few_members : (a : ℕ) → a < length s.actions → length (members p.groups (number a)) ≤ widest p.groups
  few_members a l =
      let e = length-places p.groups 0 (number a) in
      let m = widest_le p.groups p.groups (number a) (Contains-get_or p.groups a 0 (omega (arith, l, are.many))) in
      omega (arith, e, m)

-- a pair is in the square or not
pub has_or : (rows : Rows) (a b : ℕ) → Has rows a b ⊎ (Has rows a b → ⊥)
has_or rows a b = decide _ _
  where
    decide : (x y : ℕ) → (x ≡ y → ⊥) ⊎ ((x ≡ y → ⊥) → ⊥)
    decide x y = ⊎_elim (λ e. inr (λ n. n e)) (λ n. inl n) (cases_eq x y)

-- an order among the actions of the scenario
pub record Ordered (s : Scenario) (a b : ℕ) : Type 0 where
  pub a_in : a < length s.actions
  pub b_in : b < length s.actions
  pub must : Must s a b

pub ordered_or : (s : Scenario) (p : Entries) → AreEntriesOf s p → (a b : ℕ) → Ordered s a b ⊎ (Ordered s a b → ⊥)
ordered_or s p are a b =
    ⊎_elim
    (λ l. ⊎_elim
    (λ m. ⊎_elim (λ h. inl (record { a_in = l; b_in = m; must = (are.must a b l m).0 h })) (λ n. inr (λ o. n ((are.must a b l m).1 o.must))) (has_or p.must a b))
    (λ m. inr (λ o. let k = o.b_in in omega (arith, k, m))) (cases_lt b (length s.actions)))
    (λ l. inr (λ o. let k = o.a_in in omega (arith, k, l))) (cases_lt a (length s.actions))
