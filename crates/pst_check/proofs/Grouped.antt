-- Which lists are whole groups, by a plan.
use Rattle.std.proofs.Common.{◌≡◌, ◌⊎◌, ℕ, ◌<◌, List, [], ◌∷◌, ◌↔◌, length, map, get_or, refl, sym, subst, inl, inr, ⊎_elim, arith}
use Rattle.std.specs.Prelude.{Contains}
use Rattle.std.proofs.lemmas.Bool.{cases_lt}
use Rattle.pst_scen.specs.declared.scenario.Scenario.{Scenario}
use Rattle.pst_scen.specs.Trace.{IsWholeGroup}
use Rattle.pst_scen.specs.Plan.{Entries, members}
use Rattle.pst_scen.specs.Plans.{IsPlanOf}
use Rattle.pst_order.specs.Laws.{MembersAreThose, PlanGroupsAreWhole, WholeGroupsAreOne}
use Rattle.pst_scen.specs.declared.event.Event.{Event}
use Rattle.pst_by_rule.specs.Blocks.{act_of}
use Rattle.pst_check.specs.Tests.{AreGroup}
use Rattle.pst_check.proofs.Elements.{cons_first, same_or}

module _ (those : MembersAreThose) (whole : PlanGroupsAreWhole) (one : WholeGroupsAreOne) (s : Scenario) (p : Entries) (plan : IsPlanOf s p) where
  abbrev group_with : ℕ → List ℕ
  group_with a = members p.groups (get_or p.groups a 0)

  with_itself : (a : ℕ) → a < length s.actions → Contains (group_with a) a
  with_itself a l =
      let e = plan.entries.many in
      let m : a < length p.groups = omega (arith, e, l) in
      (those p.groups (get_or p.groups a 0) a).1 (m, refl)

  -- a whole group is that of its first member
  pub group_is : (a : ℕ) (more : List ℕ) → IsWholeGroup s (a ∷ more) → a ∷ more ≡ group_with a
  group_is a more w =
      let l = w.inside a (cons_first a more) in
      one s (a ∷ more) (group_with a) a w (whole s p a plan l).0 (cons_first a more) (with_itself a l)

  pub is_group : (a : ℕ) (more : List ℕ) → a < length s.actions → a ∷ more ≡ group_with a → IsWholeGroup s (a ∷ more)
  is_group a more l e = subst (λ ms. IsWholeGroup s ms) (sym e) (whole s p a plan l).0

  pub group_or : (ms : List ℕ) → IsWholeGroup s ms ⊎ (IsWholeGroup s ms → ⊥)
  group_or [] = inr (λ w. let l = w.some in absurd (omega (arith, l)))
  group_or (a ∷ more) =
      ⊎_elim
      (λ l. ⊎_elim (λ e. inl (is_group a more l e)) (λ n. inr (λ w. n (group_is a more w))) (same_or (a ∷ more) (group_with a)))
      (λ g. inr (λ w. let l = w.inside a (cons_first a more) in absurd (omega (arith, l, g))))
      (cases_lt a (length s.actions))

  pub grouped : (part : List Event) → 0 < length part → AreGroup p part ↔ IsWholeGroup s (map act_of part)
  grouped [] some = absurd (omega (arith, some))
  grouped (e ∷ rest) some = (
    λ g. let l = g.below in let m = plan.entries.many in is_group (act_of e) (map act_of rest) (omega (arith, l, m)) g.are,
    λ w. let l = w.inside (act_of e) (cons_first (act_of e) (map act_of rest)) in
        let m = plan.entries.many in
        record { below = omega (arith, l, m); are = group_is (act_of e) (map act_of rest) w },
  )
