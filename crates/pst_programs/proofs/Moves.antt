-- Each move keeps what is kept.
use Rattle.std.proofs.Common.{◌≡◌, ℕ, suc, ◌<◌, ◌≤◌, List, [], ◌∷◌, ◌++◌, length, get_or, refl, sym, ap, ◌∙◌, subst, ⊎_elim, arith}
use Rattle.std.specs.Prelude.{Contains}
use Rattle.std.proofs.lemmas.List.Elements.{Contains-append_left, Contains-append_right, Contains-append_cases}
use Rattle.pst_scen.specs.declared.scenario.Scenario.{Scenario}
use Rattle.pst_scen.specs.declared.event.Event.TheVariants.{Start, End}
use Rattle.pst_scen.specs.Core.{IsReady}
use Rattle.pst_scen.specs.Trace.{Started, Ended, Runs, AreFree, Starts, Ends, starts_of}
use Rattle.pst_scen.specs.Plan.{Entries, members}
use Rattle.pst_scen.specs.Plans.{IsPlanOf}
use Rattle.pst_order.specs.Laws.{WholeHasNoClash, MustIsInside, MembersAreThose, PlanGroupsAreWhole}
use Rattle.pst_programs.specs.declared.program.Instruction.{Instruction}
use Rattle.pst_programs.specs.declared.program.Instruction.TheVariants.{Run, Signal, Await}
use Rattle.pst_programs.specs.declared.program.Program.{Program}
use Rattle.pst_programs.specs.declared.program.Move.{Move}
use Rattle.pst_programs.specs.Serial.{group_of}
use Rattle.pst_programs.specs.Machine.{State, Steps, Reaches, at_first, moved_on, IsAt, AreAt, Tells, Hears, Begins}
use Rattle.pst_programs.specs.Machine as machine
use Rattle.pst_programs.specs.Safe.{Stands, AreSafe}
use Rattle.pst_programs.proofs.Elements.{none_in, cons_cases, cons_first}
use Rattle.pst_programs.proofs.Events.{ended_cases, ended_more, ended_new, starts_on_cases, started_cases, started_more, started_new, starts_no_end, starts_member, member_starts, end_is, end_no_start}
use Rattle.pst_programs.proofs.Places.{stands_one, run_one, signal_one, run_signal, run_await, signal_await, lane_in, many_moved, moved_here, no_less, passed_cases, first_place, many_first, as_many, starts_at}
use Rattle.pst_programs.proofs.Kept.{place, Kept, ready, is_free, member_in, in_member}

module _ (s : Scenario) (p : Entries) (programs : List Program) where
  -- at first
  pub first_kept : Kept s p programs (at_first programs)
  first_kept =
      let none : (l k : ℕ) → k < place (at_first programs) l → ⊥ = λ l k h. let e = first_place (length programs) l in omega (arith, h, e) in
      record {
        many = many_first (length programs);
        blocks = [];
        are = refl;
        rule = tt;
        ended_to = λ a l k x e. absurd (none_in (End a) e);
        ended_from = λ a l k x h. absurd (none l k h);
        ended_started = λ a e. absurd (none_in (End a) e);
        started_at = λ a l h. absurd (none_in (Start a l h.0) h.1);
        together = λ a b m n e h. absurd (none_in (Start a h.0 h.1.0) h.1.1);
        told_by = λ x h. absurd (none_in x h);
        tells = λ x l k y h. absurd (none l k h);
        heard = λ x l k y h. absurd (none l k h);
      }

  module _ (plan : IsPlanOf s p) (safe : AreSafe p programs) (clash : WholeHasNoClash) (must_in : MustIsInside) (those : MembersAreThose) (whole : PlanGroupsAreWhole)
      (old : State) (kept : Kept s p programs old) where
    lane_there : (l : ℕ) (i : Instruction) → IsAt programs old.places l i → l < length old.places
    lane_there l i at = let h = lane_in programs l (place old l) i at in let e = kept.many in omega (arith, h, e)

    -- a place behind which a lane comes by this move, which stood at something else
    other : (l m k : ℕ) (i j : Instruction) → IsAt programs old.places l i → Stands programs m k j → (i ≡ j → ⊥) → k < get_or (moved_on old.places l) m 0 → k < place old m
    other l m k i j at st n h =
        ⊎_elim (λ q. q)
        (λ e. absurd (n (stands_one programs l (place old l) i j at (subst (λ v. Stands programs l v j) e.1 (subst (λ v. Stands programs v k j) e.0 st)))))
        (passed_cases old.places l m k (lane_there l i at) h)

    more : (l m k : ℕ) → k < place old m → k < get_or (moved_on old.places l) m 0
    more l m k h = let e = no_less old.places l m in omega (arith, h, e)

    tells_kept : (l a : ℕ) → IsAt programs old.places l (Signal a) → Kept s p programs (record { places = moved_on old.places l; signals = old.signals ++ a ∷ []; trace = old.trace })
    tells_kept l a at =
        record {
          many = many_moved old.places l ∙ kept.many;
          blocks = kept.blocks;
          are = kept.are;
          rule = kept.rule;
          ended_to = λ b m k x e. more l m k (kept.ended_to b m k x e);
          ended_from = λ b m k x h. kept.ended_from b m k x (other l m k (Signal a) (Run b) at x (λ e. run_signal b a (sym e)) h);
          ended_started = kept.ended_started;
          started_at = λ b m h. let o = kept.started_at b m h in let e = no_less old.places l m in let f : o.0 ≤ get_or (moved_on old.places l) m 0 = omega (arith, o.2, e) in (o.0, o.1, f);
          together = kept.together;
          told_by = λ x h.
              ⊎_elim
              (λ k. let t = kept.told_by x k in (t.0, t.1, t.2, more l t.0 (suc t.1) t.3))
              (λ q. let e : a ≡ x = ⊎_elim (λ r. r) (λ r. absurd (none_in x r)) (cons_cases a x [] q) in
              let b = safe.behind a l (place old l) at in
              let w = moved_here old.places l (lane_there l (Signal a) at) in
              let f : suc b.0 < get_or (moved_on old.places l) l 0 = omega (arith, b.1, w) in
              (l, b.0, subst (λ v. Stands programs l b.0 (Run v)) e b.2, f))
              (Contains-append_cases old.signals (a ∷ []) x h);
          tells = λ x m k y h.
              ⊎_elim (λ q. Contains-append_left old.signals (a ∷ []) x (kept.tells x m k y q))
              (λ e. let f = signal_one a x (stands_one programs l (place old l) (Signal a) (Signal x) at (subst (λ v. Stands programs l v (Signal x)) e.1 (subst (λ v. Stands programs v k (Signal x)) e.0 y))) in
              subst (λ v. Contains (old.signals ++ a ∷ []) v) f (Contains-append_right old.signals (a ∷ []) a (cons_first a [])))
              (passed_cases old.places l m k (lane_there l (Signal a) at) h);
          heard = λ x m k y h. Contains-append_left old.signals (a ∷ []) x (kept.heard x m k y (other l m k (Signal a) (Await x) at y (λ e. signal_await a x e) h));
        }

    hears_kept : (l a : ℕ) → IsAt programs old.places l (Await a) → Contains old.signals a → Kept s p programs (record { places = moved_on old.places l; signals = old.signals; trace = old.trace })
    hears_kept l a at told =
        record {
          many = many_moved old.places l ∙ kept.many;
          blocks = kept.blocks;
          are = kept.are;
          rule = kept.rule;
          ended_to = λ b m k x e. more l m k (kept.ended_to b m k x e);
          ended_from = λ b m k x h. kept.ended_from b m k x (other l m k (Await a) (Run b) at x (λ e. run_await b a (sym e)) h);
          ended_started = kept.ended_started;
          started_at = λ b m h. let o = kept.started_at b m h in let e = no_less old.places l m in let f : o.0 ≤ get_or (moved_on old.places l) m 0 = omega (arith, o.2, e) in (o.0, o.1, f);
          together = kept.together;
          told_by = λ x h. let t = kept.told_by x h in (t.0, t.1, t.2, more l t.0 (suc t.1) t.3);
          tells = λ x m k y h. kept.tells x m k y (other l m k (Await a) (Signal x) at y (λ e. signal_await x a (sym e)) h);
          heard = λ x m k y h.
              ⊎_elim (λ q. kept.heard x m k y q)
              (λ e. let f = await_one a x (stands_one programs l (place old l) (Await a) (Await x) at (subst (λ v. Stands programs l v (Await x)) e.1 (subst (λ v. Stands programs v k (Await x)) e.0 y))) in
              subst (λ v. Contains old.signals v) f told)
              (passed_cases old.places l m k (lane_there l (Await a) at) h);
        }
      where
        await_one : (a b : ℕ) → Await a ≡ Await b → a ≡ b
        await_one a b e = cc e

    ends_kept : (l a : ℕ) → IsAt programs old.places l (Run a) → Runs old.trace a → Kept s p programs (record { places = moved_on old.places l; signals = old.signals; trace = old.trace ++ End a ∷ [] })
    ends_kept l a at runs =
        let behind : (m k : ℕ) → Stands programs m k (Run a) → k < get_or (moved_on old.places l) m 0 =
        λ m k x. let o = safe.only a m l k (place old l) x at in
        let w = moved_here old.places l (lane_there l (Run a) at) in
        subst (λ v. k < get_or (moved_on old.places l) v 0) (sym o.0) (omega (arith, o.1, w)) in
        record {
          many = many_moved old.places l ∙ kept.many;
          blocks = Ends a ∷ kept.blocks;
          are = ap (λ t. t ++ End a ∷ []) kept.are;
          rule = (kept.rule, subst (λ t. Runs t a) (sym kept.are) runs);
          ended_to = λ b m k x e.
              ⊎_elim (λ q. more l m k (kept.ended_to b m k x q))
              (λ q. behind m k (subst (λ v. Stands programs m k (Run v)) (sym (end_is a b q)) x))
              (ended_cases old.trace (End a ∷ []) b e);
          ended_from = λ b m k x h.
              ⊎_elim (λ q. ended_more old.trace (End a ∷ []) b (kept.ended_from b m k x q))
              (λ e. let f = run_one a b (stands_one programs l (place old l) (Run a) (Run b) at (subst (λ v. Stands programs l v (Run b)) e.1 (subst (λ v. Stands programs v k (Run b)) e.0 x))) in
              subst (λ v. Ended (old.trace ++ End a ∷ []) v) f (ended_new old.trace (End a ∷ []) a (cons_first (End a) [])))
              (passed_cases old.places l m k (lane_there l (Run a) at) h);
          ended_started = λ b e.
              started_more old.trace (End a ∷ []) b
              (⊎_elim (λ q. kept.ended_started b q) (λ q. subst (λ v. Started old.trace v) (end_is a b q) runs.0) (ended_cases old.trace (End a ∷ []) b e));
          started_at = λ b m h.
              ⊎_elim (λ q. let o = kept.started_at b m q in let e = no_less old.places l m in let f : o.0 ≤ get_or (moved_on old.places l) m 0 = omega (arith, o.2, e) in (o.0, o.1, f))
              (λ q. absurd (end_no_start a b (m, q))) (starts_on_cases old.trace (End a ∷ []) b m h);
          together = λ b c b_in c_in e h.
              ⊎_elim (λ q. started_more old.trace (End a ∷ []) c (kept.together b c b_in c_in e q)) (λ q. absurd (end_no_start a b q)) (started_cases old.trace (End a ∷ []) b h);
          told_by = λ x h. let t = kept.told_by x h in (t.0, t.1, t.2, more l t.0 (suc t.1) t.3);
          tells = λ x m k y h. kept.tells x m k y (other l m k (Run a) (Signal x) at y (λ e. run_signal a x e) h);
          heard = λ x m k y h. kept.heard x m k y (other l m k (Run a) (Await x) at y (λ e. run_await a x e) h);
        }

    begins_kept : (l a : ℕ) (us : List ℕ) → IsAt programs old.places l (Run a) → AreAt programs old.places (members p.groups (group_of p a)) us
        → ((b : ℕ) → Contains (members p.groups (group_of p a)) b → Started old.trace b → ⊥)
        → Kept s p programs (record { places = old.places; signals = old.signals; trace = old.trace ++ starts_of (members p.groups (group_of p a)) us })
    begins_kept l a us at ats fresh =
        let a_in = safe.inside a l (place old l) at in
        let ms = members p.groups (group_of p a) in
        let many = as_many programs old.places ms us ats in
        record {
          many = kept.many;
          blocks = Starts ms us ∷ kept.blocks;
          are = ap (λ t. t ++ starts_of ms us) kept.are;
          rule = (
            kept.rule,
            (
              subst (λ t. IsReady s t ms) (sym kept.are) (ready s p plan programs safe old kept clash must_in those whole a a_in us ats fresh),
              subst (λ t. AreFree (length programs) t ms us) (sym kept.are) (is_free s p plan programs safe old kept clash must_in those whole a a_in us ats fresh),
            ),
          );
          ended_to = λ b m k x e. kept.ended_to b m k x (⊎_elim (λ q. q) (λ q. absurd (starts_no_end ms us b q)) (ended_cases old.trace (starts_of ms us) b e));
          ended_from = λ b m k x h. ended_more old.trace (starts_of ms us) b (kept.ended_from b m k x h);
          ended_started = λ b e. started_more old.trace (starts_of ms us) b (kept.ended_started b (⊎_elim (λ q. q) (λ q. absurd (starts_no_end ms us b q)) (ended_cases old.trace (starts_of ms us) b e)));
          started_at = λ b m h.
              ⊎_elim (λ q. kept.started_at b m q) (λ q. let f : place old m ≤ place old m = omega arith in (place old m, starts_at programs old.places ms us ats b m q, f))
              (starts_on_cases old.trace (starts_of ms us) b m h);
          together = λ b c b_in c_in e h.
              ⊎_elim (λ q. started_more old.trace (starts_of ms us) c (kept.together b c b_in c_in e q))
              (λ q. let g = (member_in s p plan programs safe old kept clash must_in those whole a a_in us ats fresh b (starts_member ms us b q)).1 in
              started_new old.trace (starts_of ms us) c (member_starts ms us c many (in_member s p plan programs safe old kept clash must_in those whole a a_in us ats fresh c c_in (sym e ∙ g))))
              (started_cases old.trace (starts_of ms us) b h);
          told_by = kept.told_by;
          tells = kept.tells;
          heard = kept.heard;
        }

    pub step_kept : (move : Move) (new : State) → Steps p programs old move new → Kept s p programs new
    step_kept _ _ (Tells l a at) = tells_kept l a at
    step_kept _ _ (Hears l a at told) = hears_kept l a at told
    step_kept _ _ (Begins l a us at ats fresh) = begins_kept l a us at ats fresh
    step_kept _ _ (machine.Ends l a at runs) = ends_kept l a at runs

  module _ (plan : IsPlanOf s p) (safe : AreSafe p programs) (clash : WholeHasNoClash) (must_in : MustIsInside) (those : MembersAreThose) (whole : PlanGroupsAreWhole) where
    pub reached_kept : (moves : List Move) (state : State) → Reaches p programs moves state → Kept s p programs state
    reached_kept _ _ machine.First = first_kept
    reached_kept _ _ (machine.Then moves move old new reached step) = step_kept plan safe clash must_in those whole old (reached_kept moves old reached) move new step
