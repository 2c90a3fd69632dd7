-- While a group isn't taken, one is open.
use Rattle.std.proofs.Common.{◌⊎◌, ℕ, ◌<◌, List, length, refl, inl, inr, ⊎_elim, arith}
use Rattle.std.specs.Prelude.{Contains}
use Rattle.std.proofs.lemmas.Bool.{cases_eq, cases_lt}
use Rattle.pst_scen.specs.declared.scenario.Scenario.{Scenario}
use Rattle.pst_scen.specs.Order.{Must, Through}
use Rattle.pst_scen.specs.Rows.{Has}
use Rattle.pst_scen.specs.Plan.{Entries}
use Rattle.pst_scen.specs.Plans.{IsPlanOf}
use Rattle.pst_order.specs.Laws.{WholeHasNoCycle, MustKeepsGroups, MembersAreThose, PlanGroupsAreWhole}
use Rattle.pst_programs.specs.Serial.{group_of, IsOpen}
use Rattle.pst_programs.specs.Laws.{OrderGoesOn}
use Rattle.pst_programs.proofs.Elements.{contains_or}
use Rattle.pst_programs.proofs.Counts.{least}

record Ordered (s : Scenario) (a b : ℕ) : Type 0 where
  pub a_in : a < length s.actions
  pub b_in : b < length s.actions
  pub must : Must s a b

not_or : {A : Type 0} → A ⊎ (A → ⊥) → (A → ⊥) ⊎ ((A → ⊥) → ⊥)
not_or (inl a) = inr (λ n. n a)
not_or (inr n) = inl n

module _ (cycle : WholeHasNoCycle) (along : MustKeepsGroups) (those : MembersAreThose) (whole : PlanGroupsAreWhole) (s : Scenario) (p : Entries) (plan : IsPlanOf s p) where
  ordered_or : (a b : ℕ) → Ordered s a b ⊎ (Ordered s a b → ⊥)
  ordered_or a b =
      ⊎_elim
      (λ l. ⊎_elim
      (λ m. ⊎_elim (λ h. inl (record { a_in = l; b_in = m; must = (plan.entries.must a b l m).0 h })) (λ n. inr (λ o. n ((plan.entries.must a b l m).1 o.must))) (has_or a b))
      (λ m. inr (λ o. let k = o.b_in in omega (arith, k, m))) (cases_lt b (length s.actions)))
      (λ l. inr (λ o. let k = o.a_in in omega (arith, k, l))) (cases_lt a (length s.actions))
    where
      has_or : (a b : ℕ) → Has p.must a b ⊎ (Has p.must a b → ⊥)
      has_or a b = not_or (cases_eq _ 0)

  is_open : (taken : List ℕ) (m : ℕ) → m < length s.actions → (Contains taken (group_of p m) → ⊥) → ((a : ℕ) → a < length s.actions → (Contains taken (group_of p a) → ⊥) → Ordered s a m → ⊥) → IsOpen p taken (group_of p m)
  is_open taken m l fresh first =
      let e = plan.entries.many in
      let g = group_of p m in
      let w = (whole s p m plan l).0 in
      let m_in = (those p.groups g m).1 (omega (arith, l, e), refl) in
      let number = (those p.groups g g).0 (w.whole m g m_in (plan.entries.group m l).member) in
      record {
        below = number.0;
        number = number.1;
        fresh = fresh;
        ready = λ a b a_in b_in is has.
            let a_act : a < length s.actions = omega (arith, a_in, e) in
            let b_act : b < length s.actions = omega (arith, b_in, e) in
            let must = along s a b m ((plan.entries.must a b a_act b_act).0 has) (w.one b m ((those p.groups g b).1 (b_in, is)) m_in) in
            ⊎_elim (λ c. c) (λ n. absurd (first a a_act n (record { a_in = a_act; b_in = l; must = must }))) (contains_or taken (group_of p a));
      }

  pub goes_on : (taken : List ℕ) (a : ℕ) → a < length p.groups → (Contains taken (group_of p a) → ⊥) → (group : ℕ) × IsOpen p taken group
  goes_on taken a a_in n =
      let e = plan.entries.many in
      let r = least (Ordered s) ordered_or
      (λ a b c q w. record { a_in = q.a_in; b_in = w.b_in; must = Through a b c q.must w.must })
      (λ a q. cycle s a plan.runs q.a_in q.must)
      (λ x. Contains taken (group_of p x) → ⊥) (λ x. not_or (contains_or taken (group_of p x))) (length s.actions) a (omega (arith, a_in, e)) n in
      (group_of p r.0, is_open taken r.0 r.1 r.2 r.3)

pub order_goes_on : WholeHasNoCycle → MustKeepsGroups → MembersAreThose → PlanGroupsAreWhole → OrderGoesOn
order_goes_on cycle along those whole s p taken a plan l n = goes_on cycle along those whole s p plan taken a l n
