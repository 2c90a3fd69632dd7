-- What pairs that are refused have to do with the order, the groups and the conflicts.
use Rattle.std.proofs.Common.{◌≡◌, ◌≢◌, ◌↔◌, ◌⊎◌, inl, inr, ⊎_elim, ◌<◌, ◌≤◌, ◌+◌, max, ℕ, zero, suc, List, [], ◌∷◌, length, get_or, cond, Bool, true, false, nat_eq, refl, sym, subst, arith}
use Rattle.std.proofs.lemmas.Bool.{eq-eqb}
use Rattle.std.proofs.lemmas.List.Recursion.{is_count_by}
use Rattle.std.proofs.lemmas.Option.{slice_get_within}
use Rattle.pst_scen.specs.declared.act.Flow.{Flow}
use Rattle.pst_scen.specs.declared.act.Link.{Link}
use Rattle.pst_scen.specs.declared.scenario.Scenario.{Scenario}
use Rattle.pst_scen.specs.Flows.{Refers}
use Rattle.pst_scen.specs.Order.{Together, Must}
use Rattle.pst_scen.specs.Conflicts.{Clash, Resource, FirstWrites, SecondWrites, Conflict, Uses}
use Rattle.pst_scen.specs.Rows.{Has}
use Rattle.pst_scen.specs.Plan.{Entries, member_count, widest_among, widest}
use Rattle.pst_scen.specs.Plans.{ClashesAlone, StandParallel, AreEntriesOf}
use Rattle.pst_scen.specs.Refusals.{GroupClashes, Two, One, IsParallelClash}
use Rattle.pst_order.specs.Facts.{IsLinked}
use Rattle.pst_graph.proofs.Acted.{contend_clash}
use Rattle.pst_graph.proofs.Grouped.{same_group}

refers_in : (s : Scenario) (a pool : ℕ) (flow : Flow) (to : Link) → Refers s a flow pool to → a < length s.actions
refers_in s a pool flow to r = slice_get_within s.actions a r.act r.is_act

uses_in : (s : Scenario) (a pool : ℕ) → Uses s a pool → a < length s.actions
uses_in s a pool u = ⊎_elim (λ r. refers_in s a pool _ u.0 r) (λ w. refers_in s a pool _ u.0 w) u.1

clash_in : (s : Scenario) (a b : ℕ) → Clash s a b → (a < length s.actions) × (b < length s.actions)
clash_in s a b (Resource pool instance own other c d h) = (slice_get_within s.actions a c.is.act c.is.is_act, slice_get_within s.actions b d.is.act d.is.is_act)
clash_in s a b (FirstWrites pool to w u) = (refers_in s a pool _ to w, uses_in s b pool u)
clash_in s a b (SecondWrites pool to u w) = (uses_in s a pool u, refers_in s b pool _ to w)

-- a number that stands in one place of a list, or in two
abbrev times : ℕ → List ℕ → ℕ
times g [] = 0
times g (x ∷ xs) = cond (nat_eq g x) (1 + times g xs) (times g xs)

times_more : (b : Bool) (least n : ℕ) → least ≤ n → least ≤ cond b (1 + n) n
times_more true least n l = omega (arith, l)
times_more false least n l = l

times_here : (x g : ℕ) (xs : List ℕ) (least : ℕ) → x ≡ g → least ≤ times g xs → 1 + least ≤ times g (x ∷ xs)
times_here x g xs least e l = subst (λ (b : Bool). 1 + least ≤ cond b (1 + times g xs) (times g xs)) (sym (eq-eqb g x (sym e))) (omega (arith, l))

times_one : (xs : List ℕ) (g i : ℕ) → i < length xs → get_or xs i 0 ≡ g → 1 ≤ times g xs
times_one [] g i l e = absurd (omega (arith, l))
times_one (x ∷ xs) g zero l e = times_here x g xs 0 e (omega arith)
times_one (x ∷ xs) g (suc i) l e = times_more (nat_eq g x) 1 (times g xs) (times_one xs g i (omega (arith, l)) e)

times_two : (xs : List ℕ) (g i j : ℕ) → i < j → j < length xs → get_or xs i 0 ≡ g → get_or xs j 0 ≡ g → 2 ≤ times g xs
times_two [] g i j order l e f = absurd (omega (arith, l))
times_two (x ∷ xs) g zero zero order l e f = absurd (omega (arith, order))
times_two (x ∷ xs) g zero (suc j) order l e f = times_here x g xs 1 e (times_one xs g j (omega (arith, l)) f)
times_two (x ∷ xs) g (suc i) zero order l e f = absurd (omega (arith, order))
times_two (x ∷ xs) g (suc i) (suc j) order l e f = times_more (nat_eq g x) 2 (times g xs) (times_two xs g i j (omega (arith, order)) (omega (arith, l)) e f)

-- no group has more members than the widest
widest_holds : (groups xs : List ℕ) (i : ℕ) → i < length xs → member_count groups (get_or xs i 0) ≤ widest_among groups xs
widest_holds groups [] i l = absurd (omega (arith, l))
widest_holds groups (x ∷ xs) zero l = omega arith
widest_holds groups (x ∷ xs) (suc i) l = let h = widest_holds groups xs i (omega (arith, l)) in omega (arith, h)

-- two members of one group that conflict
abbrev pub IsGroupConflict : Scenario → ℕ → ℕ → Type 0
IsGroupConflict s a b = (a < b) × Together s a b × Conflict s a b

pub clash_cases : (s : Scenario) (a b : ℕ) → GroupClashes s a b → ((a ≡ b) × (a < length s.actions) × ClashesAlone s a) ⊎ IsGroupConflict s a b
clash_cases s _ _ (Two a b order together conflict) = inr (order, together, conflict)
clash_cases s _ _ (One a a_in alone) = inl (refl, a_in, alone)

pub group_clash_in : (s : Scenario) (a b : ℕ) → GroupClashes s a b → a < length s.actions
group_clash_in s a b h = ⊎_elim (λ k. k.1) (λ k. (clash_in s a b k.2.1).0) (clash_cases s a b h)

pub group_clash_behind : (s : Scenario) (a b : ℕ) → a < b → GroupClashes s a b → IsGroupConflict s a b
group_clash_behind s a b order h = ⊎_elim (λ k. let same = k.0 in absurd (omega (arith, order, same))) (λ k. k) (clash_cases s a b h)

pub no_clash_before : (s : Scenario) (a b : ℕ) → (ClashesAlone s a → ⊥) → b ≤ a → GroupClashes s a b → ⊥
no_clash_before s a b not below h = ⊎_elim (λ k. not k.2) (λ k. let order = k.0 in omega (arith, order, below)) (clash_cases s a b h)

pub no_clash_ahead : (s : Scenario) (a b : ℕ) → b < a → GroupClashes s a b → ⊥
no_clash_ahead s a b below h = ⊎_elim (λ k. let same = k.0 in omega (arith, same, below)) (λ k. let order = k.0 in omega (arith, order, below)) (clash_cases s a b h)

module _ (s : Scenario) (p : Entries) (linked : IsLinked s) (are : AreEntriesOf s p) where
  pub clash_has : (a b : ℕ) → p.conflict.size ≡ length s.actions → a < b → GroupClashes s a b → (b < p.conflict.size) × Has p.conflict a b
  clash_has a b size order h =
      let k = group_clash_behind s a b order h in
      let both = clash_in s a b k.2.1 in
      (subst (λ (n : ℕ). b < n) (sym size) both.1, (are.conflict a b both.0 both.1).1 k.2)

  pub share_is_clash : (a b : ℕ) → a < b → b < length s.actions → Has p.conflict a b → get_or p.groups b 0 ≡ get_or p.groups a 0 ↔ GroupClashes s a b
  share_is_clash a b order b_in has =
      let a_in : a < length s.actions = omega (arith, order, b_in) in
      let same = same_group s p.groups are.group a b a_in b_in in (
        λ e. Two a b order (same.0 e) ((are.conflict a b a_in b_in).0 has),
        λ h. same.1 (group_clash_behind s a b order h).1,
      )

  pub parallel_in : (a b : ℕ) → StandParallel s a b → (a < length s.actions) × (b < length s.actions)
  parallel_in a b q = (
    linked.leaves_in q.a_inside.leaf a q.a_inside.node q.a_inside.is q.a_inside.of_act,
    linked.leaves_in q.b_inside.leaf b q.b_inside.node q.b_inside.is q.b_inside.of_act,
  )

  pub parallel_clash_has : (a b : ℕ) → p.conflict.size ≡ length s.actions → a < b → IsParallelClash s a b → (b < p.conflict.size) × Has p.conflict a b
  parallel_clash_has a b size order h =
      let both = parallel_in a b h.parallel in
      let differs : a ≢ b = λ same. omega (arith, same, order) in
      (subst (λ (n : ℕ). b < n) (sym size) both.1, (are.conflict a b both.0 both.1).1 (differs, contend_clash s a b h.contend))

  pub ordered_has : (a b : ℕ) → a < length s.actions → b < length s.actions → Has p.must a b ⊎ Has p.must b a ↔ Must s a b ⊎ Must s b a
  ordered_has a b a_in b_in = (
    λ has. ⊎_elim (λ k. inl ((are.must a b a_in b_in).0 k)) (λ k. inr ((are.must b a b_in a_in).0 k)) has,
    λ must. ⊎_elim (λ k. inl ((are.must a b a_in b_in).1 k)) (λ k. inr ((are.must b a b_in a_in).1 k)) must,
  )

  -- where no group has two members
  pub no_clash_in_narrow : (a : ℕ) → widest p.groups < 2 → (ClashesAlone s a → ⊥) → (b : ℕ) → GroupClashes s a b → ⊥
  no_clash_in_narrow a narrow not b h =
      ⊎_elim (λ k. not k.2)
      (λ k.
      let both = clash_in s a b k.2.1 in
      let many = are.many in
      let order = k.0 in
      let a_in : a < length p.groups = (let l = both.0 in omega (arith, l, many)) in
      let b_in : b < length p.groups = (let l = both.1 in omega (arith, l, many)) in
      let same = (same_group s p.groups are.group a b both.0 both.1).1 k.1 in
      let g = get_or p.groups a 0 in
      let two = times_two p.groups g a b order b_in refl same in
      let is = is_count_by (times g) (nat_eq g) refl (λ y ys. refl) p.groups in
      let most = widest_holds p.groups p.groups a a_in in
      omega (arith, two, is, most, narrow))
      (clash_cases s a b h)
