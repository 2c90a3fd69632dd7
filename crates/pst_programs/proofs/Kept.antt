-- What each state of the machine keeps, and what it shows of order and conflicts.
use Rattle.std.proofs.Common.{◌≡◌, ◌⊎◌, ℕ, suc, ◌<◌, ◌≤◌, List, length, get_or, sym, ap, ◌∙◌, subst, inl, inr, ⊎_elim, arith}
use Rattle.std.specs.Prelude.{Contains}
use Rattle.std.proofs.lemmas.Bool.{cases_order, cases_lt}
use Rattle.pst_scen.specs.declared.scenario.Scenario.{Scenario}
use Rattle.pst_scen.specs.Order.{Must}
use Rattle.pst_scen.specs.Conflicts.{Conflict, Clash, Resource, FirstWrites, SecondWrites}
use Rattle.pst_scen.specs.Trace.{StartsOn, Started, Ended, Runs, IsWholeGroup, AreFree, Block, events}
use Rattle.pst_scen.specs.Rows.{Has}
use Rattle.pst_scen.specs.Plan.{Entries, members}
use Rattle.pst_scen.specs.Plans.{IsPlanOf}
use Rattle.pst_scen.specs.Core.{IsReady}
use Rattle.pst_order.specs.Rule.{AreByRule}
use Rattle.pst_order.specs.Laws.{WholeHasNoClash, MustIsInside, MembersAreThose, PlanGroupsAreWhole}
use Rattle.pst_programs.specs.declared.program.Instruction.TheVariants.{Run, Signal, Await}
use Rattle.pst_programs.specs.declared.program.Program.{Program}
use Rattle.pst_programs.specs.Serial.{group_of}
use Rattle.pst_programs.specs.Machine.{State, IsAt, AreAt}
use Rattle.pst_programs.specs.Safe.{Stands, IsHeard, AreSafe}
use Rattle.pst_programs.proofs.Places.{stands_one, run_one, lane_in, as_many, at_each, of_member, of_lane}

-- the place of a lane
abbrev pub place : State → ℕ → ℕ
place state l = get_or state.places l 0

-- An action has ended exactly where its lane is behind its `Run`, started at most where it has come there, a signal was given exactly
-- where the lane is behind it, and what a lane is behind awaiting was told.
pub record Kept (s : Scenario) (p : Entries) (programs : List Program) (state : State) : Type 0 where
  pub many : length state.places ≡ length programs
  pub blocks : List Block
  pub are : events blocks ≡ state.trace
  pub rule : AreByRule s (length programs) blocks
  pub ended_to : (a l k : ℕ) → Stands programs l k (Run a) → Ended state.trace a → k < place state l
  pub ended_from : (a l k : ℕ) → Stands programs l k (Run a) → k < place state l → Ended state.trace a
  pub ended_started : (a : ℕ) → Ended state.trace a → Started state.trace a
  pub started_at : (a l : ℕ) → StartsOn state.trace a l → (k : ℕ) × Stands programs l k (Run a) × (k ≤ place state l)
  pub together : (a b : ℕ) → a < length p.groups → b < length p.groups → group_of p a ≡ group_of p b → Started state.trace a → Started state.trace b
  pub told_by : (x : ℕ) → Contains state.signals x → (l : ℕ) × (k : ℕ) × Stands programs l k (Run x) × (suc k < place state l)
  pub tells : (x l k : ℕ) → Stands programs l k (Signal x) → k < place state l → Contains state.signals x
  pub heard : (x l k : ℕ) → Stands programs l k (Await x) → k < place state l → Contains state.signals x

module _ (s : Scenario) (p : Entries) (plan : IsPlanOf s p) (programs : List Program) (safe : AreSafe p programs) (state : State) (kept : Kept s p programs state) where
  -- WHAT IS NEEDED HAS ENDED

  same_lane : (x a l j k : ℕ) → safe.rank x < safe.rank a → Stands programs l j (Run x) → Stands programs l k (Run a) → k ≤ place state l → Ended state.trace x
  same_lane x a l j k r sx sa at =
      ⊎_elim
      (λ e. let f = run_one x a (stands_one programs l k (Run x) (Run a) (subst (λ v. Stands programs l v (Run x)) e sx) sa) in
      let q : safe.rank x ≡ safe.rank a = ap safe.rank f in absurd (omega (arith, r, q)))
      (λ o. ⊎_elim (λ h. kept.ended_from x l j sx (omega (arith, h, at))) (λ h. let q = safe.rising a x l k j sa sx h in absurd (omega (arith, r, q))) o)
      (cases_order j k)

  told_ended : (x : ℕ) → Contains state.signals x → Ended state.trace x
  told_ended x c = let t = kept.told_by x c in kept.ended_from x t.0 t.1 t.2 (omega (arith, t.3))

  by_await : (x l k : ℕ) → IsHeard programs l k x → k ≤ place state l → Ended state.trace x
  by_await x l k h at =
      let c = kept.heard h.later l h.await_at h.await (omega (arith, h.before, at)) in
      let t = kept.told_by h.later c in
      let o = safe.only h.later t.0 h.from t.1 h.later_at t.2 h.later_run in
      let past : suc h.later_at < place state h.from = subst (λ v. suc v < place state h.from) o.1 (subst (λ v. suc t.1 < place state v) o.0 t.3) in
      kept.ended_from x h.from h.at h.run (omega (arith, h.not_earlier, past))

  -- where a lane has come to the `Run` of an action, all that the action needs has ended
  pub needed_ended : (x a l k : ℕ) → x < length p.groups → safe.rank x < safe.rank a → Has p.must x a ⊎ Has p.conflict x a
      → Stands programs l k (Run a) → k ≤ place state l → Ended state.trace x
  needed_ended x a l k x_in r because sa at =
      ⊎_elim (λ h. same_lane x a l h.0 k r h.1 sa at) (λ h. by_await x l k h at) (safe.needed x a l k x_in r because sa)

  -- A GROUP WHOSE LANES STAND AT ITS RUNS IS READY

  abbrev inside : ℕ → Type 0
  inside a = a < length p.groups

  in_plan : (a : ℕ) → a < length s.actions → inside a
  in_plan a l = let e = plan.entries.many in omega (arith, l, e)

  in_scenario : (a : ℕ) → inside a → a < length s.actions
  in_scenario a l = let e = plan.entries.many in omega (arith, l, e)

  started_in : (a : ℕ) → Started state.trace a → inside a
  started_in a h = let k = kept.started_at a h.0 h.1 in safe.inside a h.0 k.0 k.1

  conflict_back : (a b : ℕ) → Conflict s a b → Conflict s b a
  conflict_back a b c = (λ e. c.0 (sym e), back c.1)
    where
      back : Clash s a b → Clash s b a
      back (Resource pool instance own other f g o) = Resource pool instance other own g f (⊎_elim (λ k. inr k) (λ k. inl k) o)
      back (FirstWrites pool link w u) = SecondWrites pool link u w
      back (SecondWrites pool link u w) = FirstWrites pool link w u

  module _ (clash : WholeHasNoClash) (must_in : MustIsInside) (those : MembersAreThose) (whole : PlanGroupsAreWhole)
      (c : ℕ) (c_in : inside c) (us : List ℕ) (at : AreAt programs state.places (members p.groups (group_of p c)) us)
      (fresh : (b : ℕ) → Contains (members p.groups (group_of p c)) b → Started state.trace b → ⊥) where
    abbrev ms : List ℕ
    ms = members p.groups (group_of p c)

    group : IsWholeGroup s ms
    group = (whole s p c plan (in_scenario c c_in)).0

    -- members are actions, of the group
    pub member_in : (b : ℕ) → Contains ms b → inside b × (group_of p b ≡ group_of p c)
    member_in b h = (those p.groups (group_of p c) b).0 h

    pub in_member : (b : ℕ) → inside b → group_of p b ≡ group_of p c → Contains ms b
    in_member b l e = (those p.groups (group_of p c) b).1 (l, e)

    awaited : (a b : ℕ) → Contains ms b → Must s a b → Ended state.trace a
    awaited a b h m =
        let b_in = (member_in b h).0 in
        let a_in = in_plan a (must_in s a b plan.runs (in_scenario b b_in) m) in
        let has : Has p.must a b = (plan.entries.must a b (in_scenario a a_in) (in_scenario b b_in)).1 m in
        let q = of_member programs state.places ms us at b h in
        needed_ended a b q.0 (place state q.0) a_in (safe.lesser a b a_in b_in has) (inl has) q.1 (omega arith)

    clear : (a b : ℕ) → Runs state.trace a → Contains ms b → Conflict s a b → ⊥
    clear a b r h k =
        let b_in = (member_in b h).0 in
        let a_in = started_in a r.0 in
        let has : Has p.conflict a b = (plan.entries.conflict a b (in_scenario a a_in) (in_scenario b b_in)).1 k in
        let back : Has p.conflict b a = (plan.entries.conflict b a (in_scenario b b_in) (in_scenario a a_in)).1 (conflict_back a b k) in
        let q = of_member programs state.places ms us at b h in
        let o = kept.started_at a r.0.0 r.0.1 in
        ⊎_elim
        (λ e. let g = safe.one_group a b a_in b_in e in
        let m = in_member a a_in (g ∙ (member_in b h).1) in
        clash s a b plan.runs (group.one a b m h) k)
        (λ e. ⊎_elim
        (λ l. r.1 (needed_ended a b q.0 (place state q.0) a_in l (inr has) q.1 (omega arith)))
        (λ l. fresh b h (kept.ended_started b (needed_ended b a r.0.0 o.0 b_in l (inr back) o.1 o.2))) e)
        (cases_order (safe.rank a) (safe.rank b))

    pub ready : IsReady s state.trace ms
    ready = record { group = group; fresh = fresh; awaited = awaited; clear = clear }

    free : AreFree (length programs) state.trace ms us
    free =
        let many = as_many programs state.places ms us at in
        record {
          many = many;
          different = λ i j l m e.
              let x = at_each programs state.places ms us at i (omega (arith, l, m, many)) in
              let y = at_each programs state.places ms us at j (omega (arith, m, many)) in
              let f = run_one (get_or ms i 0) (get_or ms j 0) (stands_one programs (get_or us j 0) (place state (get_or us j 0)) (Run (get_or ms i 0)) (Run (get_or ms j 0)) (subst (λ v. IsAt programs state.places v (Run (get_or ms i 0))) e x) y) in
              let g = group.ascending i j l (omega (arith, m, many)) in
              absurd (omega (arith, f, g));
          below = λ u h. let r = of_lane programs state.places ms us at u h in lane_in programs u (place state u) (Run r.0) r.2;
          idle = λ u h held.
              let r = of_lane programs state.places ms us at u h in
              let o = kept.started_at held.0 u held.1 in
              let same : o.0 ≡ place state u = ⊎_elim (λ l. absurd (held.2 (kept.ended_from held.0 u o.0 o.1 l))) (λ l. omega (arith, l, o.2)) (cases_lt o.0 (place state u)) in
              let f = run_one held.0 r.0 (stands_one programs u (place state u) (Run held.0) (Run r.0) (subst (λ v. Stands programs u v (Run held.0)) same o.1) r.2) in
              fresh r.0 r.1 (subst (λ v. Started state.trace v) f (u, held.1));
        }

    pub is_free : AreFree (length programs) state.trace ms us
    is_free = free
