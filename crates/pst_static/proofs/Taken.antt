-- Groups that are taken one after another.
use Rattle.std.proofs.Common.{◌≡◌, ◌≢◌, ◌⊎◌, ℕ, zero, suc, ◌+◌, ◌/◌, ◌<◌, ◌≤◌, List, [], ◌∷◌, ◌++◌, length, get_or, replicate, take, take_all, Bool, true, false, refl, sym, ap, ◌∙◌, subst, inl, inr, ⊎_elim, arith, length-append}
use Rattle.std.specs.Prelude.{◌↔◌, Contains}
use Rattle.std.proofs.lemmas.List.Elements.{Contains-append_left, Contains-push, Contains-push_cases}
use Rattle.std.proofs.lemmas.List.{get_or-replicate, length-replicate}
use Rattle.std.proofs.lemmas.Bool.{cases_Bool, cases_eq, cases_lt}
use Rattle.pst_scen.specs.declared.scenario.Scenario.{Scenario}
use Rattle.pst_scen.specs.Order.{Must, Together}
use Rattle.pst_scen.specs.Rows.{Has, row_words}
use Rattle.pst_scen.specs.Plan.{Entries}
use Rattle.pst_scen.specs.Plans.{IsPlanOf}
use Rattle.pst_order.specs.Laws.{MustKeepsGroups}
use Rattle.pst_book.specs.Tables.{AreSoManyOf, AreLowered, AreAllAwaited}
use Rattle.pst_book.proofs.Elements.{none_in, contains_or}
use Rattle.pst_book.proofs.Lists.{at_push, at_end}
use Rattle.pst_book.proofs.Ties.{has_or}
use Rattle.pst_book.proofs.Numbers.{none_has, is_none, the_same, none_of_them, one_more_has, one_less_has, some_has, at_most_bound}
use Rattle.pst_programs.specs.Serial.{group_of, IsOpen, IsNext, IsSerial}
use Rattle.pst_programs.specs.Laws.{OrderGoesOn}
use Rattle.pst_static.specs.Taking.{IsOwed, AreOwed, AreHinted, CanBeTaken, IsFirst, IsTaken}

pub no_both : {b : Bool} → b ≡ true → b ≡ false → ⊥
no_both e f = let both : true ≡ false = sym e ∙ f in cc

-- ---- one action

pub owed_first : (p : Entries) (awaited : List ℕ) (taken : List Bool) → AreAllAwaited p awaited → length taken ≡ length p.groups → ((a : ℕ) → a < length p.groups → get_or taken a false ≡ false) → AreOwed p awaited taken
owed_first p awaited taken all many none =
    record {
      many_awaited = all.many;
      many_taken = many;
      each = λ a l. the_same (λ b q. (q.0, q.1, none b q.0)) (λ b q. (q.0, q.1)) (all.each a l);
    }

module _ (p : Entries) (awaited lowered : List ℕ) (taken new : List Bool) (act : ℕ) (act_in : act < length p.groups) (owed : AreOwed p awaited taken) (fresh : get_or taken act false ≡ false) where
  pub awaited_some : (m : ℕ) → m < length p.groups → Has p.must act m → 0 < get_or awaited m 0
  awaited_some m l h = some_has {P = IsOwed p taken m} act (act_in, h, fresh) (owed.each m l)

  pub owed_less : length new ≡ length taken → get_or new act false ≡ true → ((a : ℕ) → a ≢ act → get_or new a false ≡ get_or taken a false) → AreLowered p.must act awaited lowered → AreOwed p lowered new
  owed_less long here others low =
      record {
        many_awaited = low.many ∙ owed.many_awaited;
        many_taken = long ∙ owed.many_taken;
        each = λ a l. by_pair a l (has_or p.must act a);
      }
    where
      left : (a b : ℕ) → IsOwed p new a b → IsOwed p taken a b × (b ≢ act)
      left a b q =
          let n : b ≢ act = λ e. no_both here (subst (λ v. get_or new v false ≡ false) e q.2) in
          ((q.0, q.1, sym (others b n) ∙ q.2), n)

      by_pair : (a : ℕ) → a < length p.groups → Has p.must act a ⊎ (Has p.must act a → ⊥) → AreSoManyOf (IsOwed p new a) (get_or lowered a 0)
      by_pair a l (inl h) =
          let e = owed.many_awaited in
          one_less_has {P = IsOwed p taken a} {Q = IsOwed p new a} act (get_or lowered a 0) (act_in, h, fresh) (λ b q. left a b q) (λ b q n. (q.0, q.1, others b n ∙ q.2)) (low.lowered a (omega (arith, l, e)) h) (owed.each a l)
      by_pair a l (inr n) =
          let e = owed.many_awaited in
          subst (λ k. AreSoManyOf (IsOwed p new a) k) (sym (low.same a (omega (arith, l, e)) n))
          (the_same {P = IsOwed p taken a} {Q = IsOwed p new a} (λ b q. (q.0, q.1, others b (λ e. n (subst (λ v. Has p.must v a) e q.1)) ∙ q.2)) (λ b q. (left a b q).0) (owed.each a l))

-- ---- marks of blocks

-- at first all blocks are marked
pub hinted_first : (p : Entries) (awaited : List ℕ) (taken hints : List Bool) (count : ℕ) → count ≡ length p.groups → hints ≡ replicate (row_words count) true → AreHinted p awaited taken hints
hinted_first p awaited taken hints count n e =
    record {
      many = ap (λ (v : List Bool). length v) e ∙ length-replicate (row_words count) true ∙ ap row_words n;
      marked = λ g l can. ap (λ (v : List Bool). get_or v (g / 64) false) e ∙ get_or-replicate (row_words count) (g / 64) true false (omega (arith, l, n));
    }

-- an action's row marks the blocks of all that no longer wait for it
pub hinted_on : (p : Entries) (awaited lowered : List ℕ) (taken new hints marked : List Bool) (act : ℕ) → length awaited ≡ length p.groups → AreHinted p awaited taken hints
    → length marked ≡ length hints → ((b : ℕ) → get_or hints b false ≡ true → get_or marked b false ≡ true) → ((m : ℕ) → m < length p.groups → Has p.must act m → get_or marked (m / 64) false ≡ true)
    → AreLowered p.must act awaited lowered → get_or new act false ≡ true → ((a : ℕ) → a ≢ act → get_or new a false ≡ get_or taken a false) → AreHinted p lowered new marked
hinted_on p awaited lowered taken new hints marked act many h long kept marks low here others =
    record {
      many = long ∙ h.many;
      marked = λ g l can. ⊎_elim (λ has. marks g l has)
          (λ n. let other : g ≢ act = λ e. no_both here (subst (λ v. get_or new v false ≡ false) e can.fresh) in
          kept (g / 64) (h.marked g l (record {
            number = can.number;
            fresh = sym (others g other) ∙ can.fresh;
            ready = sym (low.same g (omega (arith, l, many)) n) ∙ can.ready;
          })))
          (has_or p.must act g);
    }

-- ---- one group after another

-- what the tables say of the groups that were taken
pub record Follows (p : Entries) (order awaited : List ℕ) (taken : List Bool) : Type 0 where
  pub owed : AreOwed p awaited taken
  pub taken_is : (a : ℕ) → a < length p.groups → (get_or taken a false ≡ true) ↔ Contains order (group_of p a)
  pub each : (k : ℕ) → k < length order → IsNext p (take k order) (get_or order k 0)
  pub below : (g : ℕ) → Contains order g → g < length p.groups
  pub many : AreSoManyOf (λ g. Contains order g) (length order)

pub follows_first : (p : Entries) (awaited : List ℕ) (taken : List Bool) → AreOwed p awaited taken → ((a : ℕ) → a < length p.groups → get_or taken a false ≡ false) → Follows p [] awaited taken
follows_first p awaited taken owed none =
    record {
      owed = owed;
      taken_is = λ a l. ((λ e. absurd (no_both e (none a l))), (λ c. absurd (none_in (group_of p a) c)));
      each = λ k l. absurd (omega (arith, l));
      below = λ g c. absurd (none_in g c);
      many = none_of_them (λ g c. none_in g c);
    }

take_front : (k : ℕ) (xs ys : List ℕ) → k ≤ length xs → take k (xs ++ ys) ≡ take k xs
take_front zero xs ys l = refl
take_front (suc k) [] ys l = absurd (omega (arith, l))
take_front (suc k) (x ∷ xs) ys l = ap (λ v. x ∷ v) (take_front k xs ys (omega (arith, l)))

module _ (p : Entries) (order awaited : List ℕ) (taken : List Bool) (f : Follows p order awaited taken) where
  not_in : (a : ℕ) → a < length p.groups → get_or taken a false ≡ false → Contains order (group_of p a) → ⊥
  not_in a l e c = no_both ((f.taken_is a l).1 c) e

  -- no member of a group is taken whose number isn't
  pub members_fresh : (group : ℕ) → group < length p.groups → CanBeTaken p awaited taken group → (a : ℕ) → a < length p.groups → group_of p a ≡ group → get_or taken a false ≡ false
  members_fresh group l can a m e =
      ⊎_elim
      (λ t. absurd (no_both ((f.taken_is group l).1 (subst (λ v. Contains order v) (sym can.number) (subst (λ v. Contains order v) e ((f.taken_is a m).0 t)))) can.fresh))
      (λ t. t) (cases_Bool (get_or taken a false))

  pub fewer : (group : ℕ) → group < length p.groups → CanBeTaken p awaited taken group → length order + 1 ≤ length p.groups
  fewer group l can = at_most_bound {P = λ g. Contains (order ++ group ∷ []) g} (length p.groups) (λ g c. ⊎_elim (λ k. f.below g k) (λ e. omega (arith, e, l)) (cases g c)) (more group l can)
    where
      cases : (g : ℕ) → Contains (order ++ group ∷ []) g → Contains order g ⊎ (g ≡ group)
      cases g c = ⊎_elim (λ k. inl k) (λ e. inr (sym e)) (Contains-push_cases order group g c)

      more : (group : ℕ) → group < length p.groups → CanBeTaken p awaited taken group → AreSoManyOf (λ g. Contains (order ++ group ∷ []) g) (length order + 1)
      more group l can =
          one_more_has {P = λ g. Contains order g} {Q = λ g. Contains (order ++ group ∷ []) g} group
          (λ c. not_in group l can.fresh (subst (λ v. Contains order v) (sym can.number) c))
          (λ g c. Contains-append_left order (group ∷ []) g c) (Contains-push order group)
          (λ g c. ⊎_elim (λ k. inr k) (λ e. inl (sym e)) (Contains-push_cases order group g c)) f.many

  module _ (s : Scenario) (plan : IsPlanOf s p) (keeps : MustKeepsGroups) where
    open_of : (group : ℕ) → group < length p.groups → CanBeTaken p awaited taken group → IsOpen p order group
    open_of group l can =
        record {
          below = l;
          number = can.number;
          fresh = λ c. not_in group l can.fresh (subst (λ v. Contains order v) (sym can.number) c);
          ready = λ a b a_in b_in is has.
              let n = plan.entries.many in
              let a_act : a < length s.actions = omega (arith, a_in, n) in
              let b_act : b < length s.actions = omega (arith, b_in, n) in
              let g_act : group < length s.actions = omega (arith, l, n) in
              let with_it : Together s b group = subst (λ v. Together s b v) is (plan.entries.group b b_act).member in
              let must : Must s a group = keeps s a b group ((plan.entries.must a b a_act b_act).0 has) with_it in
              let has_it : Has p.must a group = (plan.entries.must a group a_act g_act).1 must in
              ⊎_elim (λ t. (f.taken_is a a_in).0 t)
              (λ t. absurd (none_has {P = IsOwed p taken group} (f.owed.each group l) can.ready a (a_in, has_it, t))) (cases_Bool (get_or taken a false));
        }

  pub can_of : (group : ℕ) → IsOpen p order group → CanBeTaken p awaited taken group
  can_of group is =
      record {
        number = is.number;
        fresh = ⊎_elim (λ t. absurd (is.fresh (subst (λ v. Contains order v) is.number ((f.taken_is group is.below).0 t)))) (λ t. t) (cases_Bool (get_or taken group false));
        ready = is_none {P = IsOwed p taken group} (f.owed.each group is.below) (λ b q. no_both ((f.taken_is b q.0).1 (is.ready b group q.0 is.below is.number q.1)) q.2);
      }

  -- the group that is taken next
  pub follows_on : (s : Scenario) → IsPlanOf s p → MustKeepsGroups → (group : ℕ) (lowered : List ℕ) (new : List Bool) (after : List ℕ) → after ≡ order ++ group ∷ [] → group < length p.groups → IsFirst p awaited taken group → AreOwed p lowered new → IsTaken p group taken new → Follows p after lowered new
  follows_on s plan keeps group lowered new after is l first owed' took = subst (λ v. Follows p v lowered new) (sym is) whole
    where
      can : CanBeTaken p awaited taken group
      can = first.can l

      next : IsNext p order group
      next = record { is_open = open_of s plan keeps group l can; least = λ other o. ⊎_elim (λ k. absurd (first.least other k (can_of other o))) (λ k. k) (cases_lt other group) }

      long : length (order ++ group ∷ []) ≡ length order + 1
      long = length-append order (group ∷ [])

      each' : (k : ℕ) → k < length (order ++ group ∷ []) → IsNext p (take k (order ++ group ∷ [])) (get_or (order ++ group ∷ []) k 0)
      each' k m =
          ⊎_elim
          (λ h. subst (λ v. IsNext p (take k (order ++ group ∷ [])) v) (sym (at_push order group k h))
          (subst (λ v. IsNext p v (get_or order k 0)) (sym (take_front k order (group ∷ []) (omega (arith, h)))) (f.each k h)))
          (λ h. let e : length order ≡ k = omega (arith, h, m, long) in
          subst (λ i. IsNext p (take i (order ++ group ∷ [])) (get_or (order ++ group ∷ []) i 0)) e
          (subst (λ v. IsNext p (take (length order) (order ++ group ∷ [])) v) (sym (at_end order group))
          (subst (λ v. IsNext p v group) (sym (take_front (length order) order (group ∷ []) (omega arith) ∙ take_all (length order) order (omega arith))) next)))
          (cases_lt k (length order))

      taken' : (a : ℕ) → a < length p.groups → (get_or new a false ≡ true) ↔ Contains (order ++ group ∷ []) (group_of p a)
      taken' a m =
          ⊎_elim
          (λ e. ((λ t. subst (λ v. Contains (order ++ group ∷ []) v) (sym e) (Contains-push order group)), (λ c. took.members a m e)))
          (λ n. (
            (λ t. Contains-append_left order (group ∷ []) (group_of p a) ((f.taken_is a m).0 (sym (took.others a n) ∙ t))),
            (λ c. took.others a n ∙ (f.taken_is a m).1 (⊎_elim (λ k. k) (λ e. absurd (n (sym e))) (Contains-push_cases order group (group_of p a) c))),
          ))
          (cases_eq (group_of p a) group)

      whole : Follows p (order ++ group ∷ []) lowered new
      whole =
          record {
            owed = owed';
            taken_is = taken';
            each = each';
            below = λ g c. ⊎_elim (λ k. f.below g k) (λ e. omega (arith, e, l)) (Contains-push_cases order group g c);
            many = subst (λ k. AreSoManyOf (λ g. Contains (order ++ group ∷ []) g) k) (sym long)
                (one_more_has {P = λ g. Contains order g} {Q = λ g. Contains (order ++ group ∷ []) g} group
                (λ c. not_in group l can.fresh (subst (λ v. Contains order v) (sym can.number) c))
                (λ g c. Contains-append_left order (group ∷ []) g c) (Contains-push order group)
                (λ g c. ⊎_elim (λ k. inr k) (λ e. inl (sym e)) (Contains-push_cases order group g c)) f.many);
          }

  -- where no group can be taken all are
  pub follows_last : (s : Scenario) → IsPlanOf s p → OrderGoesOn → (group : ℕ) → length p.groups ≤ group → IsFirst p awaited taken group → IsSerial p order
  follows_last s plan goes_on group l first =
      record {
        each = f.each;
        all = λ a m. ⊎_elim (λ c. c)
            (λ n. let o = goes_on s p order a plan m n in let b = o.1.below in absurd (first.least o.0 (omega (arith, b, l)) (can_of o.0 o.1)))
            (contains_or order (group_of p a));
      }
