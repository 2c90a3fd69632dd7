-- What a run keeps over its moves.
use Rattle.std.proofs.Common.{◌≡◌, ◌⊎◌, ◌↔◌, ℕ, ◌+◌, ◌*◌, ◌<◌, ◌≤◌, List, [], ◌∷◌, ◌++◌, length, get_or, replicate, set, Bool, true, false, sym, ap, ◌∙◌, subst, inl, inr, ⊎_elim, arith, length-append, length-set, get_or-set_same, get_or-set_other}
use Rattle.std.specs.Prelude.{Contains, vec_capacity}
use Rattle.std.proofs.lemmas.List.Elements.{Contains-append_left, Contains-push, Contains-push_cases}
use Rattle.std.proofs.lemmas.List.{get_or-replicate, length-replicate}
use Rattle.std.proofs.lemmas.Bool.{cases_Bool, cases_eq}
use Rattle.pst_scen.specs.declared.scenario.Scenario.{Scenario}
use Rattle.pst_scen.specs.declared.event.Event.{Event}
use Rattle.pst_scen.specs.declared.event.Event.TheVariants as event
use Rattle.pst_scen.specs.Trace.{Started, Runs, starts_of}
use Rattle.pst_scen.specs.Plan.{Entries, members, widest}
use Rattle.pst_scen.specs.Plans.{IsPlanOf}
use Rattle.pst_order.specs.Facts.{LinksStates}
use Rattle.pst_book.specs.Tables.{AreNext}
use Rattle.pst_programs.specs.Programs.{ArePrograms}
use Rattle.pst_order.specs.Laws.{WholeHasNoClash, MustIsInside, MembersAreThose, PlanGroupsAreWhole, PrefixIsByRule, RuleFits}
use Rattle.pst_book.proofs.Elements.{none_in, cons_first, cons_rest}
use Rattle.pst_programs.specs.declared.program.Instruction.{Instruction}
use Rattle.pst_programs.specs.declared.program.Instruction.TheVariants.{Run, Signal, Await}
use Rattle.pst_programs.specs.declared.program.Program.{Program}
use Rattle.pst_programs.specs.declared.program.Move.{Move}
use Rattle.pst_programs.specs.declared.program.Move.TheVariants as move
use Rattle.pst_programs.specs.Serial.{group_of}
use Rattle.pst_programs.specs.Machine.{State, Steps, Reaches, moved_on, IsAt, AreAt, Tells, Hears, Begins, Ends}
use Rattle.pst_programs.specs.Machine as machine
use Rattle.pst_programs.specs.Safe.{AreSafe}
use Rattle.pst_programs.specs.Laws.{ProgramsAreSafe, SafeIsPrefix}
use Rattle.pst_programs.proofs.Events.{started_cases, started_more, started_new, starts_member, member_starts, length_starts, end_no_start}
use Rattle.pst_programs.proofs.Places.{some_one, run_one, lane_in, many_first, many_moved, as_many, of_member}
use Rattle.pst_programs.proofs.Kept.{Kept}
use Rattle.pst_programs.proofs.Moves.{reached_kept}
use Rattle.pst_static.specs.declared.run.Progress.{Progress}
use Rattle.pst_static.specs.Views.{IsTied}
use Rattle.pst_static.specs.Runs.{state_of, IsRun}
use Rattle.pst_static.specs.Standing.{CanJoin, AllCanJoin, HasBegun}
use Rattle.pst_static.specs.Taking.{IsTaken}
use Rattle.pst_static.proofs.Taken.{no_both}
use Rattle.pst_static.proofs.Moved.{signals_few}

-- ---- which moves are possible

abbrev Possible : Entries → List Program → State → Move → Type 0
Possible p programs old (move.Pass lane) = (a : ℕ) × (IsAt programs old.places lane (Signal a) ⊎ (IsAt programs old.places lane (Await a) × Contains old.signals a))
Possible p programs old (move.Begin lane) =
    (a : ℕ) × (used : List ℕ) × IsAt programs old.places lane (Run a) × AreAt programs old.places (members p.groups (group_of p a)) used
    × ((b : ℕ) → Contains (members p.groups (group_of p a)) b → Started old.trace b → ⊥)
Possible p programs old (move.End lane) = (a : ℕ) × IsAt programs old.places lane (Run a) × Runs old.trace a

possible : (p : Entries) (programs : List Program) (old : State) (m : Move) (new : State) → Steps p programs old m new → Possible p programs old m
possible p programs old _ _ (Tells lane a at) = (a, inl at)
possible p programs old _ _ (Hears lane a at told) = (a, inr (at, told))
possible p programs old _ _ (Begins lane a used at ats fresh) = (a, used, at, ats, fresh)
possible p programs old _ _ (Ends lane a at runs) = (a, at, runs)

module _ (p : Entries) (programs : List Program) (old : State) (lane : ℕ) where
  abbrev Never : Move → Type 0
  Never m = (new : State) → Steps p programs old m new → ⊥

  one_at : (i j : Instruction) → IsAt programs old.places lane i → IsAt programs old.places lane j → i ≡ j
  one_at i j a b = some_one i j (sym a ∙ b)

  await_is : (a b : ℕ) → Await a ≡ Await b → a ≡ b
  await_is a b e = cc

  pub no_pass : ((a : ℕ) → IsAt programs old.places lane (Signal a) → ⊥) → ((a : ℕ) → IsAt programs old.places lane (Await a) → Contains old.signals a → ⊥) → Never (move.Pass lane)
  no_pass none untold new s = let q = possible p programs old (move.Pass lane) new s in ⊎_elim (λ a. none q.0 a) (λ a. untold q.0 a.0 a.1) q.1

  -- an await of what wasn't told
  pub untold_one : (a : ℕ) → IsAt programs old.places lane (Await a) → (Contains old.signals a → ⊥) → (b : ℕ) → IsAt programs old.places lane (Await b) → Contains old.signals b → ⊥
  untold_one a at untold b other c = untold (subst (λ v. Contains old.signals v) (await_is b a (one_at (Await b) (Await a) other at)) c)

  module _ (none : (a : ℕ) → IsAt programs old.places lane (Run a) → ⊥) where
    pub no_begin_none : Never (move.Begin lane)
    no_begin_none new s = let q = possible p programs old (move.Begin lane) new s in none q.0 q.2

    pub no_end_none : Never (move.End lane)
    no_end_none new s = let q = possible p programs old (move.End lane) new s in none q.0 q.1

  pub no_end_fresh : (a : ℕ) → IsAt programs old.places lane (Run a) → (Started old.trace a → ⊥) → Never (move.End lane)
  no_end_fresh a at fresh new s =
      let q = possible p programs old (move.End lane) new s in
      fresh (subst (λ v. Started old.trace v) (run_one q.0 a (one_at (Run q.0) (Run a) q.1 at)) q.2.0)

-- ---- what is kept

reached_many : (p : Entries) (programs : List Program) (moves : List Move) (state : State) → Reaches p programs moves state → length state.places ≡ length programs
reached_many p programs _ _ machine.First = many_first (length programs)
reached_many p programs _ _ (machine.Then moves m old new reached step) = by_step m new step (reached_many p programs moves old reached)
  where
    by_step : (m : Move) (new : State) → Steps p programs old m new → length old.places ≡ length programs → length new.places ≡ length programs
    by_step _ _ (Tells lane a at) e = many_moved old.places lane ∙ e
    by_step _ _ (Hears lane a at told) e = many_moved old.places lane ∙ e
    by_step _ _ (Begins lane a used at ats fresh) e = e
    by_step _ _ (Ends lane a at runs) e = many_moved old.places lane ∙ e

module _ (p : Entries) (programs : List Program) (run : Progress) (t : IsRun p programs run) where
  abbrev state : State
  state = state_of run

  abbrev next : List ℕ
  next = run.next.items

  abbrev started : List Bool
  started = run.started.items

  abbrev told : List Bool
  told = run.told.items

  abbrev room : ℕ
  room = vec_capacity run.trace

  abbrev told_room : ℕ
  told_room = vec_capacity run.signals

  pub many : length state.places ≡ length programs
  many = reached_many p programs t.reached.0 state t.reached.1

  pub lane_there : (lane : ℕ) (i : Instruction) → IsAt programs state.places lane i → lane < length state.places
  lane_there lane i at = let l = lane_in programs lane (get_or state.places lane 0) i at in let m = many in omega (arith, l, m)

  -- a move leads on
  tied_next : (m : Move) (new : State) → Steps p programs state m new → (started' told' : List Bool) (room' told_room' : ℕ) → length started' ≡ length p.groups → length told' ≡ length p.groups
      → ((a : ℕ) → a < length p.groups → (get_or started' a false ≡ true) ↔ Started new.trace a) → ((a : ℕ) → a < length p.groups → (get_or told' a false ≡ true) ↔ Contains new.signals a)
      → room ≤ room' → told_room ≤ told_room' → IsTied (record { plan = p; programs = programs; state = new }) next started' told' room' told_room'
  tied_next m new step started' told' room' told_room' many_s many_t s_is t_is up told_up =
      let r = t.has_room in
      let w = t.has_told_room in
      record {
        planned = t.planned;
        are = t.are;
        few = t.few;
        wide = t.wide;
        reached = (m ∷ t.reached.0, machine.Then t.reached.0 m state new t.reached.1 step);
        next_is = t.next_is;
        many_started = many_s;
        many_told = many_t;
        started_is = s_is;
        told_is = t_is;
        has_room = omega (arith, r, up);
        has_told_room = omega (arith, w, told_up);
      }

  module _ (safe_law : ProgramsAreSafe) where
    safe : AreSafe p programs
    safe = safe_law t.planned.0 p (length programs) programs t.planned.2 t.are

    pub run_in : (lane a : ℕ) → IsAt programs state.places lane (Run a) → a < length p.groups
    run_in lane a at = safe.inside a lane (get_or state.places lane 0) at

    pub signal_in : (lane a : ℕ) → IsAt programs state.places lane (Signal a) → a < length p.groups
    signal_in lane a at = let b = safe.behind a lane (get_or state.places lane 0) at in safe.inside a lane b.0 b.2

    pub await_in : (lane a : ℕ) → IsAt programs state.places lane (Await a) → a < length p.groups
    await_in lane a at = let b = safe.told a lane (get_or state.places lane 0) at in safe.inside a b.0 b.1 b.2

  -- a lane hears
  pub heard_on : (lane a : ℕ) (places : List ℕ) → IsAt programs state.places lane (Await a) → Contains state.signals a → places ≡ moved_on state.places lane
      → Steps p programs state (move.Pass lane) (record { places = places; signals = state.signals; trace = state.trace })
      × IsTied (record { plan = p; programs = programs; state = record { places = places; signals = state.signals; trace = state.trace } }) next started told room told_room
  heard_on lane a places at c e =
      let step : Steps p programs state (move.Pass lane) (record { places = places; signals = state.signals; trace = state.trace }) =
      subst (λ v. Steps p programs state (move.Pass lane) (record { places = v; signals = state.signals; trace = state.trace })) (sym e) (Hears lane a at c) in
      (step, tied_next (move.Pass lane) (record { places = places; signals = state.signals; trace = state.trace }) step started told room told_room t.many_started t.many_told t.started_is t.told_is (omega arith) (omega arith))

  -- a lane tells
  pub told_on : (lane a : ℕ) (places signals : List ℕ) (told' : List Bool) (told_room' : ℕ) → a < length p.groups → IsAt programs state.places lane (Signal a)
      → places ≡ moved_on state.places lane → signals ≡ state.signals ++ a ∷ [] → told' ≡ set told a true → told_room ≤ told_room'
      → Steps p programs state (move.Pass lane) (record { places = places; signals = signals; trace = state.trace })
      × IsTied (record { plan = p; programs = programs; state = record { places = places; signals = signals; trace = state.trace } }) next started told' room told_room'
  told_on lane a places signals told' told_room' a_in at e f g up =
      let step : Steps p programs state (move.Pass lane) (record { places = places; signals = signals; trace = state.trace }) =
      subst (λ v. Steps p programs state (move.Pass lane) (record { places = v; signals = signals; trace = state.trace })) (sym e)
      (subst (λ v. Steps p programs state (move.Pass lane) (record { places = moved_on state.places lane; signals = v; trace = state.trace })) (sym f) (Tells lane a at)) in (
        step,
        tied_next (move.Pass lane) (record { places = places; signals = signals; trace = state.trace }) step started told' room told_room' t.many_started
            (ap (λ (v : List Bool). length v) g ∙ length-set told a true ∙ t.many_told) t.started_is
            (λ b b_in. subst (λ v. (get_or v b false ≡ true) ↔ Contains signals b) (sym g) (subst (λ v. (get_or (set told a true) b false ≡ true) ↔ Contains v b) (sym f) (marked b b_in)))
            (omega arith) up,
      )
    where
      marked : (b : ℕ) → b < length p.groups → (get_or (set told a true) b false ≡ true) ↔ Contains (state.signals ++ a ∷ []) b
      marked b b_in =
          let n = t.many_told in
          ⊎_elim
          (λ q. ((λ s. subst (λ v. Contains (state.signals ++ a ∷ []) v) (sym q) (Contains-push state.signals a)), (λ c. subst (λ v. get_or (set told a true) v false ≡ true) (sym q) (get_or-set_same told a true false (omega (arith, a_in, n))))))
          (λ q. (
            (λ s. Contains-append_left state.signals (a ∷ []) b ((t.told_is b b_in).0 (sym (get_or-set_other told a b true false q) ∙ s))),
            (λ c. get_or-set_other told a b true false q ∙ (t.told_is b b_in).1 (⊎_elim (λ k. k) (λ k. absurd (q (sym k))) (Contains-push_cases state.signals a b c))),
          ))
          (cases_eq b a)

  -- an action ends
  pub ended_on : (lane a : ℕ) (places : List ℕ) (trace : List Event) (room' : ℕ) → IsAt programs state.places lane (Run a) → Runs state.trace a
      → places ≡ moved_on state.places lane → trace ≡ state.trace ++ event.End a ∷ [] → room ≤ room'
      → Steps p programs state (move.End lane) (record { places = places; signals = state.signals; trace = trace })
      × IsTied (record { plan = p; programs = programs; state = record { places = places; signals = state.signals; trace = trace } }) next started told room' told_room
  ended_on lane a places trace room' at runs e f up =
      let step : Steps p programs state (move.End lane) (record { places = places; signals = state.signals; trace = trace }) =
      subst (λ v. Steps p programs state (move.End lane) (record { places = v; signals = state.signals; trace = trace })) (sym e)
      (subst (λ v. Steps p programs state (move.End lane) (record { places = moved_on state.places lane; signals = state.signals; trace = v })) (sym f) (Ends lane a at runs)) in (
        step,
        tied_next (move.End lane) (record { places = places; signals = state.signals; trace = trace }) step started told room' told_room t.many_started t.many_told
            (λ b b_in. subst (λ v. (get_or started b false ≡ true) ↔ Started v b) (sym f) (same b b_in)) t.told_is up (omega arith),
      )
    where
      same : (b : ℕ) → b < length p.groups → (get_or started b false ≡ true) ↔ Started (state.trace ++ event.End a ∷ []) b
      same b b_in = (
        λ s. started_more state.trace (event.End a ∷ []) b ((t.started_is b b_in).0 s),
        λ h. (t.started_is b b_in).1 (⊎_elim (λ k. k) (λ k. absurd (end_no_start a b k)) (started_cases state.trace (event.End a ∷ []) b h)),
      )

  -- a group starts
  pub begun_on : MembersAreThose → (lane a : ℕ) (trace : List Event) (started' : List Bool) (room' : ℕ) → IsAt programs state.places lane (Run a)
      → AllCanJoin p programs state.places started (group_of p a) → length started' ≡ length started → IsTaken p (group_of p a) started started'
      → HasBegun programs state.places (members p.groups (group_of p a)) state.trace trace → room ≤ room'
      → Steps p programs state (move.Begin lane) (record { places = state.places; signals = state.signals; trace = trace })
      × IsTied (record { plan = p; programs = programs; state = record { places = state.places; signals = state.signals; trace = trace } }) next started' told room' told_room
  begun_on those lane a trace started' room' at all long taken begun up =
      let step : Steps p programs state (move.Begin lane) (record { places = state.places; signals = state.signals; trace = trace }) =
      subst (λ v. Steps p programs state (move.Begin lane) (record { places = state.places; signals = state.signals; trace = v })) (sym begun.new_is)
      (Begins lane a begun.used at begun.are_at (λ b c. fresh b c)) in (
        step,
        tied_next (move.Begin lane) (record { places = state.places; signals = state.signals; trace = trace }) step started' told room' told_room (long ∙ t.many_started) t.many_told
            (λ b b_in. subst (λ v. (get_or started' b false ≡ true) ↔ Started v b) (sym begun.new_is) (now b b_in)) t.told_is up (omega arith),
      )
    where
      fresh : (b : ℕ) → Contains (members p.groups (group_of p a)) b → Started state.trace b → ⊥
      fresh b c h = let m = (those p.groups (group_of p a) b).0 c in no_both ((t.started_is b m.0).1 h) (all b m.0 m.1).fresh

      now : (b : ℕ) → b < length p.groups → (get_or started' b false ≡ true) ↔ Started (state.trace ++ starts_of (members p.groups (group_of p a)) begun.used) b
      now b b_in =
          ⊎_elim
          (λ q. (
            (λ s. started_new state.trace (starts_of (members p.groups (group_of p a)) begun.used) b (member_starts (members p.groups (group_of p a)) begun.used b (as_many programs state.places (members p.groups (group_of p a)) begun.used begun.are_at) ((those p.groups (group_of p a) b).1 (b_in, q)))),
            (λ h. taken.members b b_in q),
          ))
          (λ n. (
            (λ s. started_more state.trace (starts_of (members p.groups (group_of p a)) begun.used) b ((t.started_is b b_in).0 (sym (taken.others b n) ∙ s))),
            (λ h. taken.others b n
                ∙ (t.started_is b b_in).1 (⊎_elim (λ k. k) (λ k. absurd (n ((those p.groups (group_of p a) b).0 (starts_member (members p.groups (group_of p a)) begun.used b k)).1)) (started_cases state.trace (starts_of (members p.groups (group_of p a)) begun.used) b h))),
          ))
          (cases_eq (group_of p b) (group_of p a))

  -- where not all members can join, the group can't begin
  pub no_begin_all : MembersAreThose → (lane a : ℕ) → IsAt programs state.places lane (Run a) → (AllCanJoin p programs state.places started (group_of p a) → ⊥)
      → (new : State) → Steps p programs state (move.Begin lane) new → ⊥
  no_begin_all those lane a at not new s =
      let q = possible p programs state (move.Begin lane) new s in
      let e : q.0 ≡ a = run_one q.0 a (some_one (Run q.0) (Run a) (sym q.2 ∙ at)) in
      let g : group_of p q.0 ≡ group_of p a = ap (group_of p) e in
      not (λ b b_in same.
      let c : Contains (members p.groups (group_of p q.0)) b = (those p.groups (group_of p q.0) b).1 (b_in, same ∙ sym g) in
      let u = of_member programs state.places (members p.groups (group_of p q.0)) q.1 q.3 b c in
      record { lane = u.0; at = u.1; fresh = ⊎_elim (λ k. absurd (q.4 b c ((t.started_is b b_in).0 k))) (λ k. k) (cases_Bool (get_or started b false)) })

  -- ---- room

  module _ (clash : WholeHasNoClash) (must_in : MustIsInside) (those : MembersAreThose) (whole : PlanGroupsAreWhole) (safe_law : ProgramsAreSafe) where
    abbrev s : Scenario
    s = t.planned.0

    plan : IsPlanOf s p
    plan = t.planned.2

    are_safe : AreSafe p programs
    are_safe = safe_law s p (length programs) programs plan t.are

    kept : Kept s p programs state
    kept = reached_kept s p programs plan are_safe clash must_in those whole t.reached.0 state t.reached.1

    -- what started on a lane that stands at its run, runs
    pub runs_there : (lane a : ℕ) → IsAt programs state.places lane (Run a) → Started state.trace a → Runs state.trace a
    runs_there lane a at h = (h, λ e. let l = kept.ended_to a lane (get_or state.places lane 0) at e in omega (arith, l))

    -- there is room for one more signal
    pub tell_room : (lane a : ℕ) → IsAt programs state.places lane (Signal a) → length state.signals < told_room
    tell_room lane a at =
        let new : State = record { places = moved_on state.places lane; signals = state.signals ++ a ∷ []; trace = state.trace } in
        let f = signals_few s p programs plan are_safe clash must_in those whole (move.Pass lane ∷ t.reached.0) (record { places = moved_on state.places lane; signals = state.signals ++ a ∷ []; trace = state.trace })
        (machine.Then t.reached.0 (move.Pass lane) state (record { places = moved_on state.places lane; signals = state.signals ++ a ∷ []; trace = state.trace }) t.reached.1 (Tells lane a at)) in
        let n : length (state.signals ++ a ∷ []) ≡ length state.signals + 1 = length-append state.signals (a ∷ []) in
        let r = t.has_told_room in
        omega (arith, f, n, r)

    module _ (prefix : SafeIsPrefix) (by_rule : PrefixIsByRule) (fits : RuleFits) where
      trace_fits : (m : Move) (new : State) → Steps p programs state m new → length new.trace ≤ room
      trace_fits m new step =
          let f = fits s (length programs) new.trace (by_rule s (length programs) new.trace (prefix s p programs (m ∷ t.reached.0) new t.planned.1 plan t.wide are_safe (machine.Then t.reached.0 m state new t.reached.1 step))) in
          let n = plan.entries.many in
          let r = t.has_room in
          omega (arith, f, n, r)

      pub end_room : (lane a : ℕ) → IsAt programs state.places lane (Run a) → Runs state.trace a → length state.trace < room
      end_room lane a at runs =
          let f = trace_fits (move.End lane) (record { places = moved_on state.places lane; signals = state.signals; trace = state.trace ++ event.End a ∷ [] }) (Ends lane a at runs) in
          let n : length (state.trace ++ event.End a ∷ []) ≡ length state.trace + 1 = length-append state.trace (event.End a ∷ []) in
          omega (arith, f, n)

      lanes_of : (ms : List ℕ) → ((a : ℕ) → Contains ms a → CanJoin programs state.places started a) → (used : List ℕ) × AreAt programs state.places ms used
      lanes_of [] all = ([], tt)
      lanes_of (m ∷ ms) all =
          let r = lanes_of ms (λ a c. all a (cons_rest m a ms c)) in
          let c = all m (cons_first m ms) in
          (c.lane ∷ r.0, (c.at, r.1))

      pub begin_room : (lane a : ℕ) → IsAt programs state.places lane (Run a) → AllCanJoin p programs state.places started (group_of p a)
          → length state.trace + length (members p.groups (group_of p a)) ≤ room
      begin_room lane a at all =
          let ms = members p.groups (group_of p a) in
          let u = lanes_of ms (λ b c. let m = (those p.groups (group_of p a) b).0 c in all b m.0 m.1) in
          let f = trace_fits (move.Begin lane) (record { places = state.places; signals = state.signals; trace = state.trace ++ starts_of ms u.0 })
          (Begins lane a u.0 at u.1 (λ b c h. let m = (those p.groups (group_of p a) b).0 c in no_both ((t.started_is b m.0).1 h) (all b m.0 m.1).fresh)) in
          let n : length (state.trace ++ starts_of ms u.0) ≡ length state.trace + length (starts_of ms u.0) = length-append state.trace (starts_of ms u.0) in
          let k = length_starts ms u.0 in
          let e = as_many programs state.places ms u.0 u.1 in
          omega (arith, f, n, k, e)

-- ---- at first

pub run_first : (p : Entries) (programs : List Program) (run : Progress) → ((s : Scenario) × LinksStates s × IsPlanOf s p) → ArePrograms p (length programs) programs → length programs ≤ 16 → widest p.groups ≤ length programs
    → AreNext p.groups run.next.items → run.places.items ≡ replicate (length programs) 0 → run.signals.items ≡ [] → run.trace.items ≡ []
    → run.told.items ≡ replicate (length p.groups) false → run.started.items ≡ replicate (length p.groups) false → 2 * length p.groups ≤ vec_capacity run.trace → length p.groups ≤ vec_capacity run.signals → IsRun p programs run
run_first p programs run planned are few wide next_is places signals trace told started room told_room =
    record {
      planned = planned;
      are = are;
      few = few;
      wide = wide;
      reached = (
        [],
        subst (λ v. Reaches p programs [] (record { places = v; signals = run.signals.items; trace = run.trace.items })) (sym places)
            (subst (λ v. Reaches p programs [] (record { places = replicate (length programs) 0; signals = v; trace = run.trace.items })) (sym signals)
            (subst (λ v. Reaches p programs [] (record { places = replicate (length programs) 0; signals = []; trace = v })) (sym trace) machine.First)),
      );
      next_is = next_is;
      many_started = ap (λ (v : List Bool). length v) started ∙ length-replicate (length p.groups) false;
      many_told = ap (λ (v : List Bool). length v) told ∙ length-replicate (length p.groups) false;
      started_is = λ a l. (
        (λ t. absurd (no_both t (ap (λ (v : List Bool). get_or v a false) started ∙ get_or-replicate (length p.groups) a false false l))),
        (λ h. absurd (none_in (event.Start a h.0 h.1.0) (subst (λ v. Contains v (event.Start a h.0 h.1.0)) trace h.1.1))),
      );
      told_is = λ a l. (
        (λ t. absurd (no_both t (ap (λ (v : List Bool). get_or v a false) told ∙ get_or-replicate (length p.groups) a false false l))),
        (λ c. absurd (none_in a (subst (λ v. Contains v a) signals c))),
      );
      has_room = room;
      has_told_room = told_room;
    }
