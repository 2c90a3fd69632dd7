-- Members that get lanes one after another.
use Rattle.std.proofs.Common.{◌≡◌, ◌≢◌, ◌⊎◌, ℕ, zero, suc, ◌+◌, ◌<◌, ◌≤◌, List, [], ◌∷◌, ◌++◌, length, get_or, drop, take, Bool, true, false, refl, sym, ap, ◌∙◌, subst, inl, inr, ⊎_elim, arith, length-append, append_assoc}
use Rattle.std.specs.Prelude.{◌↔◌, Contains, nat_eq, if◌then◌else◌, cond, zip, max}
use Rattle.std.proofs.lemmas.List.Sums.{sum_by_push, count_by-le-length}
use Rattle.std.proofs.lemmas.List.Recursion.{is_count_by}
use Rattle.std.proofs.lemmas.List.Elements.{Contains-append_left, Contains-push, Contains-push_cases, Contains-get_or}
use Rattle.std.proofs.lemmas.Bool.{cases_Bool, cases_eq, cases_lt, cases_order, eqb-true, eq-eqb}
use Rattle.pst_scen.specs.Plan.{Entries, places_from, members, member_count, widest_among, widest}
use Rattle.pst_book.proofs.Elements.{none_in, cons_cases, contains_or}
use Rattle.pst_book.proofs.Lists.{at_push, at_end}
use Rattle.pst_book.proofs.Numbers.{at_most, numbers_below}
use Rattle.pst_programs.specs.Lanes.{Dealt, load, ComesBefore, AreFewest, Deals, Done, Then}
use Rattle.pst_static.specs.Loads.{Precedes, IsFirstFree, AreLoads, IsDealtOut}
use Rattle.pst_static.proofs.Taken.{no_both}

-- ---- how wide a group is

abbrev times : ℕ → List ℕ → ℕ
times g [] = 0
times g (x ∷ xs) = cond (nat_eq g x) (1 + times g xs) (times g xs)

length_times : (xs : List ℕ) (i g : ℕ) → length (places_from xs i g) ≡ times g xs
length_times [] i g = refl
length_times (x ∷ xs) i g = by_test (length_times xs (suc i) g) (nat_eq g x)
  where
    by_test : length (places_from xs (suc i) g) ≡ times g xs → (b : Bool) → length (if b then i ∷ places_from xs (suc i) g else places_from xs (suc i) g) ≡ cond b (1 + times g xs) (times g xs)
    by_test e true = omega (arith, e)
    by_test e false = e

length-members : (groups : List ℕ) (g : ℕ) → length (members groups g) ≡ member_count groups g
length-members groups g = length_times groups 0 g ∙ is_count_by (times g) (nat_eq g) refl (λ y ys. refl) groups

widest_le : (groups xs : List ℕ) (g : ℕ) → Contains xs g → member_count groups g ≤ widest_among groups xs
widest_le groups [] g h = absurd (none_in g h)
widest_le groups (x ∷ xs) g h =
    ⊎_elim (λ e. subst (λ v. member_count groups v ≤ max (member_count groups x) (widest_among groups xs)) e (omega arith))
    (λ k. let l = widest_le groups xs g k in omega (arith, l)) (cons_cases x g xs h)

pub group_fits : (groups : List ℕ) (g lanes : ℕ) → g < length groups → get_or groups g 0 ≡ g → widest groups ≤ lanes → length (members groups g) ≤ lanes
group_fits groups g lanes l e w =
    let c : Contains groups g = subst (λ v. Contains groups v) e (Contains-get_or groups g 0 l) in
    let m = widest_le groups groups g c in
    let n = length-members groups g in
    omega (arith, m, n, w)

-- ---- how many actions a lane has

pub load_push : (dealt : Dealt) (a m l : ℕ) → load (dealt ++ (a, m) ∷ []) l ≡ load dealt l + cond (nat_eq l m) 1 0
load_push dealt a m l = sum_by_push (λ (d : ℕ × ℕ). cond (nat_eq l d.1) 1 0) dealt (a, m)

pub load_here : (dealt : Dealt) (a m : ℕ) → load (dealt ++ (a, m) ∷ []) m ≡ load dealt m + 1
load_here dealt a m = load_push dealt a m m ∙ ap (λ b. load dealt m + cond b 1 0) (eq-eqb m m refl)

pub load_other : (dealt : Dealt) (a m l : ℕ) → l ≢ m → load (dealt ++ (a, m) ∷ []) l ≡ load dealt l
load_other dealt a m l n = load_push dealt a m l ∙ by_test (nat_eq l m) refl
  where
    by_test : (b : Bool) → nat_eq l m ≡ b → load dealt l + cond b 1 0 ≡ load dealt l
    by_test true e = absurd (n (eqb-true l m e))
    by_test false e = omega arith

pub load_le : (dealt : Dealt) (l : ℕ) → load dealt l ≤ length dealt
load_le dealt l = count_by-le-length (λ (d : ℕ × ℕ). nat_eq l d.1) dealt

comes_never : (dealt : Dealt) (l m : ℕ) → ComesBefore dealt l m → ComesBefore dealt m l → ⊥
comes_never dealt l m a b =
    ⊎_elim (λ x. ⊎_elim (λ y. omega (arith, x, y)) (λ y. let e = y.0 in omega (arith, x, e)) b)
    (λ x. let e = x.0 in let h = x.1 in ⊎_elim (λ y. omega (arith, e, y)) (λ y. let k = y.1 in omega (arith, h, k)) b) a

comes_or : (dealt : Dealt) (l m : ℕ) → l ≢ m → ComesBefore dealt l m ⊎ ComesBefore dealt m l
comes_or dealt l m n =
    ⊎_elim (λ e. ⊎_elim (λ q. absurd (n q)) (λ o. ⊎_elim (λ h. inl (inr (e, h))) (λ h. inr (inr (sym e, h))) o) (cases_order l m))
    (λ o. ⊎_elim (λ h. inl (inl h)) (λ h. inr (inl h)) o) (cases_order (load dealt l) (load dealt m))

-- ---- the first lane that is free

-- one lane more was looked at, and isn't better
pub free_same : (loads : List ℕ) (used : List Bool) (lane best : ℕ) → lane < length used → (best < length used → best < lane)
    → (((get_or used lane false ≡ false) × ((length used ≤ best) ⊎ (get_or loads lane 0 < get_or loads best 0))) → ⊥)
    → IsFirstFree loads used lane best → IsFirstFree loads used (lane + 1) best
free_same loads used lane best l low n f =
    record {
      free = f.free;
      before = λ b m k o e. ⊎_elim
          (λ q. subst (λ v. Precedes loads best v) (sym q)
          (⊎_elim (λ s. inr (s, low b))
          (λ s. ⊎_elim (λ h. inl h) (λ h. absurd (n (subst (λ v. get_or used v false ≡ false) q e, inr h))) s)
          (cases_order (get_or loads best 0) (get_or loads lane 0))))
          (λ q. f.before b m (omega (arith, k, q)) o e) (cases_eq m lane);
      none = λ b m k. ⊎_elim
          (λ q. subst (λ v. get_or used v false ≡ true) (sym q) (⊎_elim (λ t. t) (λ t. absurd (n (t, inl b))) (cases_Bool (get_or used lane false))))
          (λ q. f.none b m (omega (arith, k, q))) (cases_eq m lane);
    }

-- and is better
pub free_better : (loads : List ℕ) (used : List Bool) (lane best : ℕ) → lane < length used → best ≤ length used
    → (get_or used lane false ≡ false) × ((length used ≤ best) ⊎ (get_or loads lane 0 < get_or loads best 0))
    → IsFirstFree loads used lane best → IsFirstFree loads used (lane + 1) lane
free_better loads used lane best l inside better f =
    record {
      free = λ b. better.0;
      before = λ b m k o e.
          let m_in : m < lane = omega (arith, k, o) in
          ⊎_elim (λ h. absurd (no_both (f.none h m m_in) e))
          (λ h. ⊎_elim
          (λ q. ⊎_elim
          (λ s. inl (subst (λ v. get_or loads lane 0 < get_or loads v 0) (sym s) h))
          (λ s. ⊎_elim (λ x. inl (omega (arith, h, x))) (λ x. let y = x.0 in inl (omega (arith, h, y))) (f.before q m m_in s e))
          (cases_eq m best))
          (λ q. absurd (no_both (f.none q m m_in) e))
          (cases_lt best (length used)))
          better.1;
      none = λ b. absurd (omega (arith, b, l));
    }

pub free_first : (loads : List ℕ) (used : List Bool) → IsFirstFree loads used 0 (length used)
free_first loads used = record { free = λ l. absurd (omega (arith, l)); before = λ l. absurd (omega (arith, l)); none = λ l m k. absurd (omega (arith, k)) }

-- ---- members get lanes

zip_push : (xs ys : List ℕ) (x y : ℕ) → length xs ≡ length ys → zip (xs ++ x ∷ []) (ys ++ y ∷ []) ≡ zip xs ys ++ (x, y) ∷ []
zip_push [] [] x y e = refl
zip_push [] (b ∷ ys) x y e = absurd (omega (arith, e))
zip_push (a ∷ xs) [] x y e = absurd (omega (arith, e))
zip_push (a ∷ xs) (b ∷ ys) x y e = ap (λ v. (a, b) ∷ v) (zip_push xs ys x y (omega (arith, e)))

-- the members below an action have got lanes
pub record Sharing (p : Entries) (lanes group act : ℕ) (old now : Dealt) (loads : List ℕ) (used : List Bool) : Type 0 where
  pub done : List ℕ
  pub lent : List ℕ
  pub members_are : members p.groups group ≡ done ++ places_from (drop act p.groups) act group
  pub long : length done ≡ length lent
  pub now_is : now ≡ old ++ zip done lent
  pub fewest : AreFewest lanes old (length lent) lent
  pub many_used : length used ≡ lanes
  pub used_is : (l : ℕ) → l < lanes → (get_or used l false ≡ true) ↔ Contains lent l
  pub loads_are : AreLoads lanes now loads
  pub same : (l : ℕ) → (Contains lent l → ⊥) → load now l ≡ load old l

pub sharing_first : (p : Entries) (lanes group : ℕ) (old : Dealt) (loads : List ℕ) (used : List Bool)
    → members p.groups group ≡ places_from (drop group p.groups) group group → length used ≡ lanes → ((l : ℕ) → l < lanes → get_or used l false ≡ false) → AreLoads lanes old loads
    → Sharing p lanes group group old old loads used
sharing_first p lanes group old loads used e many none are =
    record {
      done = [];
      lent = [];
      members_are = e;
      long = refl;
      now_is = sym (append_nil old);
      fewest = record {
        as_many = refl;
        below = λ l c. absurd (none_in l c);
        ascending = λ i j l m. absurd (omega (arith, m));
        fewest = λ l m b c. absurd (none_in m c);
      };
      many_used = many;
      used_is = λ l m. ((λ t. absurd (no_both t (none l m))), (λ c. absurd (none_in l c)));
      loads_are = are;
      same = λ l n. refl;
    }
  where
    append_nil : (xs : Dealt) → xs ++ [] ≡ xs
    append_nil [] = refl
    append_nil (x ∷ xs) = ap (λ v. x ∷ v) (append_nil xs)

module _ (p : Entries) (lanes group act : ℕ) (old now : Dealt) (loads : List ℕ) (used : List Bool) (sh : Sharing p lanes group act old now loads used) where
  module _ (next : ℕ) (step : places_from (drop act p.groups) act group ≡ act ∷ places_from (drop next p.groups) next group) where
    abbrev rest : List ℕ
    rest = places_from (drop next p.groups) next group

    parts : members p.groups group ≡ sh.done ++ act ∷ rest
    parts = sh.members_are ∙ ap (λ v. sh.done ++ v) step

    -- so a lane is left for this one
    pub some_free : (lane : ℕ) → length (members p.groups group) ≤ lanes → IsFirstFree loads used (length used) lane → lane < lanes
    some_free lane wide f = ⊎_elim (λ k. k) (λ k. absurd (too_many k)) (cases_lt lane lanes)
      where
        too_many : lanes ≤ lane → ⊥
        too_many k =
            let m = sh.many_used in
            let all : (l : ℕ) → l < lanes → Contains sh.lent l = λ l h. (sh.used_is l h).0 (f.none (omega (arith, k, m)) l (omega (arith, h, m))) in
            let b = at_most {P = λ x. x < lanes} sh.lent all (numbers_below lanes) in
            let e : length (members p.groups group) ≡ length sh.done + suc (length rest) = ap (λ (v : List ℕ). length v) parts ∙ length-append sh.done (act ∷ rest) in
            let g = sh.long in
            omega (arith, b, e, g, wide)

    module _ (lane : ℕ) (lane_in : lane < lanes) (f : IsFirstFree loads used (length used) lane) where
      abbrev lent' : List ℕ
      lent' = sh.lent ++ lane ∷ []

      abbrev now' : Dealt
      now' = now ++ (act, lane) ∷ []

      is_free : get_or used lane false ≡ false
      is_free = let m = sh.many_used in f.free (omega (arith, lane_in, m))

      not_lent : Contains sh.lent lane → ⊥
      not_lent c = no_both ((sh.used_is lane lane_in).1 c) is_free

      free_of : (l : ℕ) → l < lanes → (Contains sh.lent l → ⊥) → get_or used l false ≡ false
      free_of l h n = ⊎_elim (λ t. absurd (n ((sh.used_is l h).0 t))) (λ t. t) (cases_Bool (get_or used l false))

      -- every other lane that is free comes later
      later : (l : ℕ) → l < lanes → l ≢ lane → (Contains sh.lent l → ⊥) → ComesBefore old lane l
      later l h o n =
          let m = sh.many_used in
          let a : get_or loads lane 0 ≡ load old lane = sh.loads_are.each lane lane_in ∙ sh.same lane not_lent in
          let b : get_or loads l 0 ≡ load old l = sh.loads_are.each l h ∙ sh.same l n in
          ⊎_elim (λ k. inl (omega (arith, k, a, b))) (λ k. let q = k.0 in inr (omega (arith, q, a, b), k.1))
          (f.before (omega (arith, lane_in, m)) l (omega (arith, h, m)) o (free_of l h n))

      lent_before : (m : ℕ) → Contains sh.lent m → ComesBefore old m lane
      lent_before m c =
          ⊎_elim (λ k. k) (λ k. absurd (not_lent (sh.fewest.fewest lane m lane_in c k)))
          (comes_or old m lane (λ e. not_lent (subst (λ v. Contains sh.lent v) e c)))

      longer : length lent' ≡ length sh.lent + 1
      longer = length-append sh.lent (lane ∷ [])

      fewest' : AreFewest lanes old (length lent') lent'
      fewest' =
          record {
            as_many = refl;
            below = λ l c. ⊎_elim (λ k. sh.fewest.below l k) (λ e. omega (arith, e, lane_in)) (Contains-push_cases sh.lent lane l c);
            ascending = λ i j l m.
                let i_in : i < length sh.lent = omega (arith, l, m, longer) in
                let x = at_push sh.lent lane i i_in in
                subst (λ v. ComesBefore old v (get_or lent' j 0)) (sym x)
                (⊎_elim
                (λ k. subst (λ v. ComesBefore old (get_or sh.lent i 0) v) (sym (at_push sh.lent lane j k)) (sh.fewest.ascending i j l k))
                (λ k. let e : length sh.lent ≡ j = omega (arith, k, m, longer) in
                let y : get_or lent' j 0 ≡ lane = ap (λ v. get_or lent' v 0) (sym e) ∙ at_end sh.lent lane in
                subst (λ v. ComesBefore old (get_or sh.lent i 0) v) (sym y) (lent_before (get_or sh.lent i 0) (Contains-get_or sh.lent i 0 i_in)))
                (cases_lt j (length sh.lent)));
            fewest = λ l m h c b.
                ⊎_elim (λ k. Contains-append_left sh.lent (lane ∷ []) l (sh.fewest.fewest l m h k b))
                (λ e. let q = subst (λ v. ComesBefore old l v) (sym e) b in
                ⊎_elim (λ k. Contains-append_left sh.lent (lane ∷ []) l k)
                (λ n. ⊎_elim (λ s. let r = subst (λ v. ComesBefore old l v) (sym s) q in absurd (comes_never old l l r r))
                (λ s. absurd (comes_never old l lane q (later l h s n))) (cases_eq l lane))
                (contains_or sh.lent l))
                (Contains-push_cases sh.lent lane m c);
          }

      pub sharing_more : (after : Dealt) (loads' : List ℕ) (used' : List Bool) → after ≡ now ++ (act, lane) ∷ [] → length loads' ≡ length loads → get_or loads' lane 0 ≡ get_or loads lane 0 + 1
          → ((l : ℕ) → l ≢ lane → get_or loads' l 0 ≡ get_or loads l 0) → length used' ≡ length used → get_or used' lane false ≡ true → ((l : ℕ) → l ≢ lane → get_or used' l false ≡ get_or used l false)
          → Sharing p lanes group next old after loads' used'
      sharing_more after loads' used' is many here others many_used marked unmarked =
          subst (λ v. Sharing p lanes group next old v loads' used') (sym is)
          (record {
            done = sh.done ++ act ∷ [];
            lent = lent';
            members_are = parts ∙ sym (append_assoc sh.done (act ∷ []) rest);
            long = length-append sh.done (act ∷ []) ∙ (let g = sh.long in let k : length sh.done + 1 ≡ length sh.lent + 1 = omega (arith, g) in k) ∙ sym longer;
            now_is = ap (λ v. v ++ (act, lane) ∷ []) sh.now_is ∙ append_assoc old (zip sh.done sh.lent) ((act, lane) ∷ []) ∙ ap (λ v. old ++ v) (sym (zip_push sh.done sh.lent act lane sh.long));
            fewest = fewest';
            many_used = many_used ∙ sh.many_used;
            used_is = λ l h. ⊎_elim
                (λ e. ((λ t. subst (λ v. Contains lent' v) (sym e) (Contains-push sh.lent lane)), (λ c. subst (λ v. get_or used' v false ≡ true) (sym e) marked)))
                (λ n. (
                  (λ t. Contains-append_left sh.lent (lane ∷ []) l ((sh.used_is l h).0 (sym (unmarked l n) ∙ t))),
                  (λ c. unmarked l n ∙ (sh.used_is l h).1 (⊎_elim (λ k. k) (λ e. absurd (n (sym e))) (Contains-push_cases sh.lent lane l c))),
                ))
                (cases_eq l lane);
            loads_are = record {
              many = many ∙ sh.loads_are.many;
              each = λ l h. ⊎_elim
                  (λ e. subst (λ v. get_or loads' v 0 ≡ load now' v) (sym e) (here ∙ ap (λ v. v + 1) (sh.loads_are.each lane lane_in) ∙ sym (load_here now act lane)))
                  (λ n. others l n ∙ sh.loads_are.each l h ∙ sym (load_other now act lane l n)) (cases_eq l lane);
            };
            same = λ l n. load_other now act lane l (λ e. n (subst (λ v. Contains lent' v) (sym e) (Contains-push sh.lent lane))) ∙ sh.same l (λ c. n (Contains-append_left sh.lent (lane ∷ []) l c));
          })

-- the members of the whole group
pub sharing_last : (p : Entries) (lanes group act : ℕ) (old now : Dealt) (loads : List ℕ) (used : List Bool) → places_from (drop act p.groups) act group ≡ []
    → Sharing p lanes group act old now loads used → IsDealtOut p lanes group old now
sharing_last p lanes group act old now loads used none sh =
    let e : members p.groups group ≡ sh.done = sh.members_are ∙ ap (λ v. sh.done ++ v) none ∙ append_nil sh.done in
    let n : length sh.lent ≡ length (members p.groups group) = sym sh.long ∙ ap (λ (v : List ℕ). length v) (sym e) in
    record {
      used = sh.lent;
      fewest = subst (λ k. AreFewest lanes old k sh.lent) n sh.fewest;
      new_is = sh.now_is ∙ ap (λ v. old ++ zip v sh.lent) (sym e);
    }
  where
    append_nil : (xs : List ℕ) → xs ++ [] ≡ xs
    append_nil [] = refl
    append_nil (x ∷ xs) = ap (λ v. x ∷ v) (append_nil xs)

-- one group more
pub deals_more : (p : Entries) (lanes : ℕ) (before : Dealt) (order : List ℕ) (now after : Dealt) (group : ℕ) → Deals p lanes before order now → IsDealtOut p lanes group now after → Deals p lanes before (order ++ group ∷ []) after
deals_more p lanes _ _ _ after group (Done dealt) d =
    Then dealt after group [] d.used d.fewest (subst (λ v. Deals p lanes v [] after) d.new_is (Done after))
deals_more p lanes _ _ _ after group (Then dealt now other more used fewest deals) d =
    Then dealt after other (more ++ group ∷ []) used fewest (deals_more p lanes _ more now after group deals d)

pub take_next : {X : Type 0} (xs : List X) (k : ℕ) (d : X) → k < length xs → take (k + 1) xs ≡ take k xs ++ get_or xs k d ∷ []
take_next {X = X} xs k d l = let s : k + 1 ≡ suc k = omega arith in ap (λ i. take i xs) s ∙ taken xs k l
  where
    taken : (xs : List X) (k : ℕ) → k < length xs → take (suc k) xs ≡ take k xs ++ get_or xs k d ∷ []
    taken [] k l = absurd (omega (arith, l))
    taken (y ∷ xs) zero l = refl
    taken (y ∷ xs) (suc k) l = ap (λ v. y ∷ v) (taken xs k (omega (arith, l)))
