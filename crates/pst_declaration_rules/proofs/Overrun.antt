-- The first of which there are too many.
use Rattle.std.proofs.Common.{◌≡◌, ◌⊎◌, inl, inr, ⊎_elim, ℕ, ◌+◌, ◌<◌, ◌≤◌, Bool, true, false, ◌&&◌, nat_lt, nat_le, cond, List, [], ◌∷◌, ◌++◌, map, length, Option, refl, sym, ap, subst, ◌∙◌, arith, true≢false}
use Rattle.std.specs.Prelude.{Some, None, if◌then◌else◌}
use Rattle.std.specs.List.{filter}
use Rattle.std.proofs.lemmas.Bool.{ltb-true, ltb-false, leb-true, leb-false}
use Rattle.pst_ast.specs.declared.scope_declaration.Declaration.{Declaration}
use Rattle.pst_ast.specs.declared.referent.Finding.{Finding}
use Rattle.pst_ast.specs.NameRules.{finding}
use Rattle.pst_declaration_rules.specs.declared.counted.Kind.{Kind}
use Rattle.pst_declaration_rules.specs.declared.member.Member.{Member}
use Rattle.pst_declaration_rules.specs.declared.sources.TypeSources.{TypeSources}
use Rattle.pst_declaration_rules.specs.Counted.{exceeds, is_of, most_of, one_or_none, over, plus, total, weight}
use Rattle.pst_declaration_rules.specs.Tallied.{adding}
use Rattle.pst_declaration_rules.proofs.Splits.{was_split}
use Rattle.pst_declaration_rules.proofs.Tallying.{none_is_some, some_is}

-- ---- tests

pub and_both : (a b : Bool) → (a && b) ≡ true → (a ≡ true) × (b ≡ true)
and_both true b e = (refl, e)
and_both false b e = absurd (true≢false (sym e))

le_by : (a b : ℕ) (t : Bool) → nat_le a b ≡ t → a ≤ b → t ≡ true
le_by a b true e h = refl
le_by a b false e h = absurd (omega (arith, leb-false a b e, h))

pub le_is : (a b : ℕ) → a ≤ b → nat_le a b ≡ true
le_is a b h = le_by a b (nat_le a b) refl h

lt_by : (a b : ℕ) (t : Bool) → nat_lt a b ≡ t → a < b → t ≡ true
lt_by a b true e h = refl
lt_by a b false e h = absurd (omega (arith, ltb-false a b e, h))

pub lt_is : (a b : ℕ) → a < b → nat_lt a b ≡ true
lt_is a b h = lt_by a b (nat_lt a b) refl h

not_by : (a b : ℕ) (t : Bool) → nat_lt a b ≡ t → b ≤ a → t ≡ false
not_by a b true e h = absurd (omega (arith, ltb-true a b e, h))
not_by a b false e h = refl

pub lt_not : (a b : ℕ) → b ≤ a → nat_lt a b ≡ false
lt_not a b h = not_by a b (nat_lt a b) refl h

pub few_or : (a b : ℕ) → (a ≤ b) ⊎ (b < a)
few_or a b = by (nat_le a b) refl
  where
    by : (t : Bool) → nat_le a b ≡ t → (a ≤ b) ⊎ (b < a)
    by true e = inl (leb-true a b e)
    by false e = inr (omega (arith, leb-false a b e))

-- ---- sums

pub plus_is : (most a b : ℕ) → a ≤ most → plus most (Some a) (Some b) ≡ Some (a + b)
plus_is most a b h = ap (λ (t : Bool). if t then Some a else Some (a + b)) (lt_not most a h)

-- too many with those that are added, and not without them
pub record Exceeds (most : ℕ) (start added_by : Option ℕ) : Type 0 where
  pub sum : ℕ
  pub added : ℕ
  pub sum_is : start ≡ Some sum
  pub added_is : added_by ≡ Some added
  pub few : sum ≤ most
  pub many : most < sum + added

exceeds_so : (most : ℕ) (start w : Option ℕ) → exceeds most start w ≡ true → Exceeds most start w
exceeds_so most None w e = absurd (true≢false (sym e))
exceeds_so most (Some n) None e = absurd (true≢false (sym e))
exceeds_so most (Some n) (Some k) e =
    let both = and_both (nat_le n most) (nat_lt most (n + k)) e in
    record { sum = n; added = k; sum_is = refl; added_is = refl; few = leb-true n most both.0; many = ltb-true most (n + k) both.1 }

exceeds_is : (most : ℕ) (start w : Option ℕ) → Exceeds most start w → exceeds most start w ≡ true
exceeds_is most start w x =
    ap (λ (s : Option ℕ). exceeds most s w) x.sum_is
    ∙ (ap (λ (a : Option ℕ). exceeds most (Some x.sum) a) x.added_is
    ∙ (ap (λ (b : Bool). b && nat_lt most (x.sum + x.added)) (le_is x.sum most x.few) ∙ lt_is most (x.sum + x.added) x.many))

module _ (kd : Kind) where
  pub none_total : (ms : List Member) → total kd None ms ≡ None
  none_total [] = refl
  none_total (m ∷ ms) = none_total ms

  stuck_by : (c s : ℕ) (ms : List Member) (o : Option ℕ) → most_of kd < c → (total kd (Some c) ms ≡ Some s → s ≡ c) → total kd (plus (most_of kd) (Some c) o) ms ≡ Some s → s ≡ c
  stuck_by c s ms None h rest e = absurd (none_is_some s (sym (none_total ms) ∙ e))
  stuck_by c s ms (Some w) h rest e = rest (subst (λ (b : Bool). total kd (if b then Some c else Some (c + w)) ms ≡ Some s) (lt_is (most_of kd) c h) e)

  -- where there are too many, no more are counted
  pub stuck : (c s : ℕ) (ms : List Member) → most_of kd < c → total kd (Some c) ms ≡ Some s → s ≡ c
  stuck c s [] h e = sym (some_is c s e)
  stuck c s (m ∷ ms) h e = stuck_by c s ms (weight kd m) h (stuck c s ms h) e

  cases_by : (start next : Option ℕ) (x : Member) (xs ys : List Member) (g : Finding) (b : Bool) → exceeds (most_of kd) start (weight kd x) ≡ b
      → (over kd next (xs ++ ys) ≡ Some g → (over kd next xs ≡ Some g) ⊎ (over kd (total kd next xs) ys ≡ Some g))
      → (if b then finding x.declaration.name.place 12 else over kd next (xs ++ ys)) ≡ Some g
      → ((if exceeds (most_of kd) start (weight kd x) then finding x.declaration.name.place 12 else over kd next xs) ≡ Some g) ⊎ (over kd (total kd next xs) ys ≡ Some g)
  cases_by start next x xs ys g true is later there = inl (ap (λ (t : Bool). if t then finding x.declaration.name.place 12 else over kd next xs) is ∙ there)
  cases_by start next x xs ys g false is later there = ⊎_elim
      (λ h. inl (ap (λ (t : Bool). if t then finding x.declaration.name.place 12 else over kd next xs) is ∙ h))
      (λ h. inr h)
      (later there)

  pub over_cases : (start : Option ℕ) (xs ys : List Member) (g : Finding) → over kd start (xs ++ ys) ≡ Some g → (over kd start xs ≡ Some g) ⊎ (over kd (total kd start xs) ys ≡ Some g)
  over_cases start [] ys g e = inr e
  over_cases start (x ∷ xs) ys g e = cases_by start (plus (most_of kd) start (weight kd x)) x xs ys g (exceeds (most_of kd) start (weight kd x)) refl (over_cases (plus (most_of kd) start (weight kd x)) xs ys g) e

  module _ (k : TypeSources) where
    -- with one of a list there are too many
    pub record IsSplit (start : Option ℕ) (ds : List Declaration) (g : Finding) : Type 0 where
      pub front : List Declaration
      pub m : Declaration
      pub more : List Declaration
      pub split : ds ≡ front ++ m ∷ more
      pub at : Exceeds (most_of kd) (total kd start (map (adding k) front)) (weight kd (adding k m))
      pub is : g ≡ record { place = m.name.place; rule = 12 }

    found_if : (start : Option ℕ) (d : Declaration) (ds : List Declaration) (g : Finding) (b : Bool) → exceeds (most_of kd) start (weight kd (adding k d)) ≡ b
        → (over kd (plus (most_of kd) start (weight kd (adding k d))) (map (adding k) ds) ≡ Some g → IsSplit (plus (most_of kd) start (weight kd (adding k d))) ds g)
        → (if b then finding d.name.place 12 else over kd (plus (most_of kd) start (weight kd (adding k d))) (map (adding k) ds)) ≡ Some g → IsSplit start (d ∷ ds) g
    found_if start d ds g true is later e = record {
      front = [];
      m = d;
      more = ds;
      split = refl;
      at = exceeds_so (most_of kd) start (weight kd (adding k d)) is;
      is = sym (some_is _ g e);
    }
    found_if start d ds g false is later e =
        let r = later e in
        record { front = d ∷ r.front; m = r.m; more = r.more; split = ap (λ xs. d ∷ xs) r.split; at = r.at; is = r.is }

    pub found : (start : Option ℕ) (ds : List Declaration) (g : Finding) → over kd start (map (adding k) ds) ≡ Some g → IsSplit start ds g
    found start [] g e = absurd (none_is_some g e)
    found start (d ∷ ds) g e = found_if start d ds g (exceeds (most_of kd) start (weight kd (adding k d))) refl (found (plus (most_of kd) start (weight kd (adding k d))) ds g) e

    not_before : (start w : Option ℕ) (ms : List Member) (o : Option ℕ) → Exceeds (most_of kd) start w → Exceeds (most_of kd) (total kd (plus (most_of kd) start w) ms) o → ⊥
    not_before start w ms o x at =
        let sum : plus (most_of kd) start w ≡ Some (x.sum + x.added) =
        ap (λ (s : Option ℕ). plus (most_of kd) s w) x.sum_is ∙ (ap (λ (a : Option ℕ). plus (most_of kd) (Some x.sum) a) x.added_is ∙ plus_is (most_of kd) x.sum x.added x.few) in
        let same : at.sum ≡ x.sum + x.added = stuck (x.sum + x.added) at.sum ms x.many (ap (λ (s : Option ℕ). total kd s ms) (sym sum) ∙ at.sum_is) in
        omega (arith, same, x.many, at.few)

    finds_if : (start : Option ℕ) (d : Declaration) (front more : List Declaration) (m : Declaration) (b : Bool) → exceeds (most_of kd) start (weight kd (adding k d)) ≡ b
        → Exceeds (most_of kd) (total kd (plus (most_of kd) start (weight kd (adding k d))) (map (adding k) front)) (weight kd (adding k m))
        → over kd (plus (most_of kd) start (weight kd (adding k d))) (map (adding k) (front ++ m ∷ more)) ≡ finding m.name.place 12
        → (if b then finding d.name.place 12 else over kd (plus (most_of kd) start (weight kd (adding k d))) (map (adding k) (front ++ m ∷ more))) ≡ finding m.name.place 12
    finds_if start d front more m true is at rest = absurd (not_before start (weight kd (adding k d)) (map (adding k) front) (weight kd (adding k m)) (exceeds_so (most_of kd) start (weight kd (adding k d)) is) at)
    finds_if start d front more m false is at rest = rest

    pub finds : (start : Option ℕ) (front more : List Declaration) (m : Declaration) → Exceeds (most_of kd) (total kd start (map (adding k) front)) (weight kd (adding k m))
        → over kd start (map (adding k) (front ++ m ∷ more)) ≡ finding m.name.place 12
    finds start [] more m at =
        ap (λ (b : Bool). if b then finding m.name.place 12 else over kd (plus (most_of kd) start (weight kd (adding k m))) (map (adding k) more)) (exceeds_is (most_of kd) start (weight kd (adding k m)) at)
    finds start (d ∷ front) more m at =
        finds_if start d front more m (exceeds (most_of kd) start (weight kd (adding k d))) refl at (finds (plus (most_of kd) start (weight kd (adding k d))) front more m at)

    -- ---- each as one

    module _ (one : (d : Declaration) → weight kd (adding k d) ≡ one_or_none (is_of kd d.sort)) where
      abbrev test : Declaration → Bool
      test d = is_of kd d.sort

      abbrev part : Bool → ℕ
      part b = if b then 1 else 0

      one_or : (b : Bool) → one_or_none b ≡ Some (part b)
      one_or true = refl
      one_or false = refl

      plus_one : (n : ℕ) (d : Declaration) → n ≤ most_of kd → plus (most_of kd) (Some n) (weight kd (adding k d)) ≡ Some (n + part (test d))
      plus_one n d h = ap (λ (w : Option ℕ). plus (most_of kd) (Some n) w) (one d ∙ one_or (test d)) ∙ plus_is (most_of kd) n (part (test d)) h

      count_one : (n : ℕ) (d : Declaration) (rest : List Declaration) (b : Bool) → (n + part b) + length rest ≡ n + length (cond b (d ∷ rest) rest)
      count_one n d rest true = omega arith
      count_one n d rest false = omega arith

      pub counted : (n : ℕ) (ds : List Declaration) (s : ℕ) → total kd (Some n) (map (adding k) ds) ≡ Some s → s ≤ most_of kd → s ≡ n + length (filter test ds)
      counted n [] s e few = omega (arith, some_is n s e)
      counted n (d ∷ ds) s e few = ⊎_elim
          (λ h. counted (n + part (test d)) ds s (ap (λ (o : Option ℕ). total kd o (map (adding k) ds)) (sym (plus_one n d h)) ∙ e) few ∙ count_one n d (filter test ds) (test d))
          (λ h. absurd (omega (arith, stuck n s (adding k d ∷ map (adding k) ds) h e, h, few)))
          (few_or n (most_of kd))

      pub counts_to : (n : ℕ) (ds : List Declaration) → n + length (filter test ds) ≤ most_of kd → total kd (Some n) (map (adding k) ds) ≡ Some (n + length (filter test ds))
      counts_to n [] h = ap Some (omega arith)
      counts_to n (d ∷ ds) h =
          let count = count_one n d (filter test ds) (test d) in
          ap (λ (o : Option ℕ). total kd o (map (adding k) ds)) (plus_one n d (omega (arith, h)))
          ∙ (counts_to (n + part (test d)) ds (omega (arith, count, h)) ∙ ap Some count)

      filter_both : (xs ys : List Declaration) → filter test (xs ++ ys) ≡ filter test xs ++ filter test ys
      filter_both [] ys = refl
      filter_both (x ∷ xs) ys = by (test x) (filter_both xs ys)
        where
          by : (b : Bool) {zs : List Declaration} → zs ≡ filter test xs ++ filter test ys → cond b (x ∷ zs) zs ≡ cond b (x ∷ filter test xs) (filter test xs) ++ filter test ys
          by true e = ap (λ us. x ∷ us) e
          by false e = e

      -- so many of a list stand in front of one
      pub record IsMany (ds : List Declaration) (g : Finding) : Type 0 where
        pub front : List Declaration
        pub m : Declaration
        pub more : List Declaration
        pub split : filter test ds ≡ front ++ m ∷ more
        pub count : length front ≡ most_of kd
        pub is : g ≡ record { place = m.name.place; rule = 12 }

      many_by : (ds : List Declaration) (g : Finding) (s : IsSplit (Some 0) ds g) (b : Bool) → test s.m ≡ b → IsMany ds g
      many_by ds g s true is =
          let added : s.at.added ≡ 1 = sym (some_is 1 s.at.added (sym (one s.m ∙ ap one_or_none is) ∙ s.at.added_is)) in
          let sum = counted 0 s.front s.at.sum s.at.sum_is s.at.few in
          record {
            front = filter test s.front;
            m = s.m;
            more = filter test s.more;
            split = ap (filter test) s.split ∙ (filter_both s.front (s.m ∷ s.more) ∙ ap (λ (b : Bool). filter test s.front ++ cond b (s.m ∷ filter test s.more) (filter test s.more)) is);
            count = omega (arith, added, sum, s.at.few, s.at.many);
            is = s.is;
          }
      many_by ds g s false is =
          let added : s.at.added ≡ 0 = sym (some_is 0 s.at.added (sym (one s.m ∙ ap one_or_none is) ∙ s.at.added_is)) in
          absurd (omega (arith, added, s.at.few, s.at.many))

      pub many : (ds : List Declaration) (g : Finding) → over kd (Some 0) (map (adding k) ds) ≡ Some g → IsMany ds g
      many ds g e = let s = found (Some 0) ds g e in many_by ds g s (test s.m) refl

      pub many_of_split : (ds : List Declaration) (g : Finding) → IsSplit (Some 0) ds g → IsMany ds g
      many_of_split ds g s = many_by ds g s (test s.m) refl

      -- with the first behind as many as there may be, there are too many
      pub too_many : (ds front more : List Declaration) (m : Declaration) → filter test ds ≡ front ++ m ∷ more → length front ≡ most_of kd → over kd (Some 0) (map (adding k) ds) ≡ finding m.name.place 12
      too_many ds front more m e count =
          let r = was_split test ds front more m e in
          let few : length (filter test r.before) ≡ most_of kd = ap length r.kept ∙ count in
          ap (λ xs. over kd (Some 0) (map (adding k) xs)) r.split
          ∙ finds (Some 0) r.before r.behind m (record {
            sum = 0 + length (filter test r.before);
            added = 1;
            sum_is = counts_to 0 r.before (omega (arith, few));
            added_is = one m ∙ ap one_or_none r.passes;
            few = omega (arith, few);
            many = omega (arith, few);
          })
