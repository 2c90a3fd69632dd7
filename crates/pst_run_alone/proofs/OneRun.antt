-- One lane's calls decide a run.
use Rattle.std.proofs.Common.{◌≡◌, ℕ, zero, suc, List, [], ◌∷◌, ◌++◌, length, false, refl, ap, sym, ◌∙◌, subst, append-nil, inl, inr, ⊎_elim, ◌⊎◌, arith}
use Rattle.std.specs.Prelude.{Contains, Option, None, Some}
use Rattle.std.proofs.lemmas.List.{length-append, append_cancel_left}
use Rattle.std.proofs.lemmas.List.Elements.{Contains-append_right, Contains-append_cases}
use Rattle.pst_target.specs.declared.call.Call.{Call as Answered}
use Rattle.pst_model.specs.ModelTree.{ModelTree}
use Rattle.pst_scen.specs.declared.event.Event.{Event}
use Rattle.pst_scen.specs.declared.event.Event.TheVariants.{Start, End}
use Rattle.pst_scen.specs.declared.scenario.Scenario.{Scenario}
use Rattle.pst_scen.specs.Trace.{Started, Ended, IsWhole}
use Rattle.pst_scen.specs.Core.{Command, Open, Close, Step, Opened, Shut, Makes, Core}
use Rattle.pst_order.specs.Laws.{CoreIsOne}
use Rattle.pst_legal.specs.Body.{BodyRun, Ended as HasEnded, body_run}
use Rattle.pst_legal.specs.Laws.{BodiesEndOnce}
use Rattle.pst_exec.specs.Alone.{turns_of, events_of}
use Rattle.pst_run_alone.proofs.Calls.{IsStop, Comes, one_run, no_stop}
use Rattle.pst_run_alone.proofs.Turns.{starts_one, makes_one_more, IsTurn, turn_of, last_commands, last_events, as_many, last_step}

some_inj : {A : Type 0} {x y : A} → Some x ≡ Some y → x ≡ y
some_inj same = cc

-- ---- traces of turns

no_event : (e : Event) → Contains [] e → ⊥
no_event e h = absurd (omega (arith, h.1))

one_event : (d e : Event) → Contains (d ∷ []) e → d ≡ e
one_event d e (zero, below, is) = is
one_event d e (suc k, below, is) = absurd (omega (arith, below))

-- what has ended has started
all_started : (actions : List ℕ) (a : ℕ) → Ended (events_of actions) a → Started (events_of actions) a
all_started [] a h = absurd (no_event (End a) h)
all_started (b ∷ actions) a h =
    ⊎_elim (λ own. ⊎_elim (λ e. absurd cc) (λ e. here e) (own_cases own))
    (λ rest. let s = all_started actions a rest in (s.0, (s.1.0, Contains-append_right (Start b 0 false ∷ End b ∷ []) (events_of actions) (Start a s.0 s.1.0) s.1.1)))
    (Contains-append_cases (Start b 0 false ∷ End b ∷ []) (events_of actions) (End a) h)
  where
    own_cases : Contains (Start b 0 false ∷ End b ∷ []) (End a) → (Start b 0 false ≡ End a) ⊎ (End b ≡ End a)
    own_cases own = ⊎_elim (λ k. inl (one_event (Start b 0 false) (End a) k)) (λ k. inr (one_event (End b) (End a) k)) (Contains-append_cases (Start b 0 false ∷ []) (End b ∷ []) (End a) own)

    here : End b ≡ End a → Started (Start b 0 false ∷ End b ∷ events_of actions) a
    here e = let same : b ≡ a = cc in (0, (false, (0, omega arith, ap (λ (n : ℕ). Start n 0 false) same)))

events_on : (pre : List ℕ) (x : ℕ) → events_of (pre ++ x ∷ []) ≡ (events_of pre ++ Start x 0 false ∷ []) ++ End x ∷ []
events_on [] x = refl
events_on (p ∷ pre) x = ap (λ (l : List Event). Start p 0 false ∷ End p ∷ l) (events_on pre x)

events_behind : (pre : List ℕ) (x : ℕ) (es : List Event) → events_of pre ++ Start x 0 false ∷ End x ∷ es ≡ events_of (pre ++ x ∷ []) ++ es
events_behind [] x es = refl
events_behind (p ∷ pre) x es = ap (λ (l : List Event). Start p 0 false ∷ End p ∷ l) (events_behind pre x es)

-- ---- what comes next

-- where every action has ended none starts
none_starts : (s : Scenario) (pre : List ℕ) (u : List Event) (b : ℕ) → IsWhole s (events_of pre) → Step s 1 (events_of pre) Open u → u ≡ events_of pre ++ Start b 0 false ∷ [] → ⊥
none_starts s pre u b whole (Opened members used opens) same =
    let one = starts_one s (events_of pre) members used opens in
    one.fresh (all_started pre one.action (whole one.action one.inside))
none_starts s pre u b whole (Shut none) same =
    let l : length (events_of pre) ≡ length (events_of pre ++ Start b 0 false ∷ []) = ap length same in
    absurd (omega (arith, l, length-append (events_of pre) (Start b 0 false ∷ [])))

-- the core starts one action
same_start : (s : Scenario) (cs : List Command) (t : List Event) (a b : ℕ) → CoreIsOne → Core s 1 cs t
    → Step s 1 t Open (t ++ Start a 0 false ∷ []) → Step s 1 t Open (t ++ Start b 0 false ∷ []) → a ≡ b
same_start s cs t a b law core one other =
    let same = law s 1 (cs ++ Open ∷ []) (t ++ Start a 0 false ∷ []) (t ++ Start b 0 false ∷ []) (makes_one_more s [] t (t ++ Start a 0 false ∷ []) cs Open core one) (makes_one_more s [] t (t ++ Start b 0 false ∷ []) cs Open core other) in
    let tail : Start a 0 false ∷ [] ≡ Start b 0 false ∷ [] = append_cancel_left t (Start a 0 false ∷ []) (Start b 0 false ∷ []) same in
    cc

abbrev pub IsWholeAt : Scenario → Option ℕ → List Event → Type 0
IsWholeAt s None t = IsWhole s t
IsWholeAt s (Some z) t = Unit {0}

-- behind the events so far, these actions take turns, and then perhaps one more starts; the calls are those of their bodies
pub record Goes (m : ModelTree) (s : Scenario) (pre xs : List ℕ) (o : Option ℕ) (to : BodyRun) (part calls : List Answered) : Type 0 where
  pub makes : Makes s 1 (events_of pre) (turns_of xs ++ last_commands o) (events_of pre ++ (events_of xs ++ last_events o))
  pub whole : IsWholeAt s o (events_of pre ++ events_of xs)
  pub comes : Comes m s xs o to part calls

pub record AreSame (xs ys : List ℕ) (o r : Option ℕ) (to other : BodyRun) (part more : List Answered) : Type 0 where
  pub actions : xs ≡ ys
  pub last : o ≡ r
  pub comes : to ≡ other
  pub parts : part ≡ more

-- the turn of the first action, and what goes on behind it
turn_in : (m : ModelTree) (s : Scenario) (pre xs : List ℕ) (x : ℕ) (o : Option ℕ) (to : BodyRun) (part calls : List Answered)
    → Goes m s pre (x ∷ xs) o to part calls → IsTurn s (events_of pre) x (turns_of xs ++ last_commands o) (events_of xs ++ last_events o)
turn_in m s pre xs x o to part calls g = turn_of s (events_of pre) x (turns_of xs ++ last_commands o) (events_of xs ++ last_events o) g.makes (as_many xs o)

go_on : (m : ModelTree) (s : Scenario) (pre xs : List ℕ) (x : ℕ) (o : Option ℕ) (to : BodyRun) (part rest : List Answered)
    → IsTurn s (events_of pre) x (turns_of xs ++ last_commands o) (events_of xs ++ last_events o) → IsWholeAt s o (events_of pre ++ events_of (x ∷ xs)) → Comes m s xs o to part rest
    → Goes m s (pre ++ x ∷ []) xs o to part rest
go_on m s pre xs x o to part rest turn whole comes = record {
  makes = subst (λ (l : List Event). Makes s 1 l (turns_of xs ++ last_commands o) (l ++ (events_of xs ++ last_events o))) (sym (events_on pre x)) turn.rest;
  whole = subst (λ (l : List Event). IsWholeAt s o l) (events_behind pre x (events_of xs)) whole;
  comes = comes;
}

core_on : (s : Scenario) (cs : List Command) (pre : List ℕ) (x : ℕ) (more : List Command) (es : List Event) → Core s 1 cs (events_of pre) → IsTurn s (events_of pre) x more es
    → Core s 1 ((cs ++ Open ∷ []) ++ Close x ∷ []) (events_of (pre ++ x ∷ []))
core_on s cs pre x more es core turn =
    subst (λ (l : List Event). Core s 1 ((cs ++ Open ∷ []) ++ Close x ∷ []) l) (sym (events_on pre x))
    (makes_one_more s [] (events_of pre ++ Start x 0 false ∷ []) ((events_of pre ++ Start x 0 false ∷ []) ++ End x ∷ []) (cs ++ Open ∷ []) (Close x)
    (makes_one_more s [] (events_of pre) (events_of pre ++ Start x 0 false ∷ []) cs Open core turn.opens) turn.closes)

-- ---- the runs are one

module _ (m : ModelTree) (s : Scenario) (bodies : BodiesEndOnce) (cores : CoreIsOne) where
  -- one run has ended, and the other goes on
  ended_first : (pre : List ℕ) (b : ℕ) {C : Type 0} → IsWhole s (events_of pre ++ []) → Step s 1 (events_of pre) Open (events_of pre ++ Start b 0 false ∷ []) → C
  ended_first pre b whole step =
      absurd (none_starts s pre (events_of pre ++ Start b 0 false ∷ []) b (subst (λ (l : List Event). IsWhole s l) (append-nil (events_of pre)) whole) step refl)

  -- one run stops in a body that the other ends
  stopped_first : (cs : List Command) (pre : List ℕ) (z y : ℕ) (to : BodyRun) (part calls run rest : List Answered) {C : Type 0} → Core s 1 cs (events_of pre)
      → Step s 1 (events_of pre) Open (events_of pre ++ Start z 0 false ∷ []) → Step s 1 (events_of pre) Open (events_of pre ++ Start y 0 false ∷ [])
      → calls ≡ part → body_run m s z part ≡ Some to → IsStop to → calls ≡ run ++ rest → body_run m s y run ≡ Some HasEnded → C
  stopped_first cs pre z y to part calls run rest core one other own comes stops are ended =
      let same = same_start s cs (events_of pre) z y cores core one other in
      let here : body_run m s y calls ≡ Some to =
      subst (λ (n : ℕ). body_run m s n calls ≡ Some to) same (subst (λ (l : List Answered). body_run m s z l ≡ Some to) (sym own) comes) in
      absurd (no_stop m s y run rest calls to bodies ended are here stops)

  pub one : (cs : List Command) (pre xs ys : List ℕ) (o r : Option ℕ) (to other : BodyRun) (part more calls : List Answered) → Core s 1 cs (events_of pre)
      → Goes m s pre xs o to part calls → Goes m s pre ys r other more calls → AreSame xs ys o r to other part more
  one cs pre [] [] None None to other part more calls core a b =
      let (c0, p0, t0) = a.comes in
      let (c1, p1, t1) = b.comes in
      record { actions = refl; last = refl; comes = t0 ∙ sym t1; parts = p0 ∙ sym p1 }
  one cs pre [] [] None (Some w) to other part more calls core a b = ended_first pre w a.whole (last_step s (events_of pre) w b.makes)
  one cs pre [] [] (Some z) None to other part more calls core a b = ended_first pre z b.whole (last_step s (events_of pre) z a.makes)
  one cs pre [] [] (Some z) (Some w) to other part more calls core a b =
      let same = same_start s cs (events_of pre) z w cores core (last_step s (events_of pre) z a.makes) (last_step s (events_of pre) w b.makes) in
      let (own, first, stops) = a.comes in
      let (others, second, stop) = b.comes in
      let parts : part ≡ more = sym own ∙ others in
      let here : body_run m s w more ≡ Some to = subst (λ (l : List Answered). body_run m s w l ≡ Some to) parts (subst (λ (n : ℕ). body_run m s n part ≡ Some to) same first) in
      record { actions = refl; last = ap Some same; comes = some_inj (sym here ∙ second); parts = parts }
  one cs pre [] (y ∷ ys) None r to other part more calls core a b = ended_first pre y a.whole (turn_in m s pre ys y r other more calls b).opens
  one cs pre [] (y ∷ ys) (Some z) r to other part more calls core a b =
      let (own, comes, stops) = a.comes in
      let (run, rest, are, ended, others) = b.comes in
      stopped_first cs pre z y to part calls run rest core (last_step s (events_of pre) z a.makes) (turn_in m s pre ys y r other more calls b).opens own comes stops are ended
  one cs pre (x ∷ xs) [] o None to other part more calls core a b = ended_first pre x b.whole (turn_in m s pre xs x o to part calls a).opens
  one cs pre (x ∷ xs) [] o (Some w) to other part more calls core a b =
      let (own, comes, stops) = b.comes in
      let (run, rest, are, ended, others) = a.comes in
      stopped_first cs pre w x other more calls run rest core (last_step s (events_of pre) w b.makes) (turn_in m s pre xs x o to part calls a).opens own comes stops are ended
  one cs pre (x ∷ xs) (y ∷ ys) o r to other part more calls core a b =
      let (run, rest, are, ended, others) = a.comes in
      let (run2, rest2, are2, ended2, others2) = b.comes in
      let first = turn_in m s pre xs x o to part calls a in
      let second = turn_in m s pre ys y r other more calls b in
      let same = same_start s cs (events_of pre) x y cores core first.opens second.opens in
      let back = sym same in
      let calls_same = one_run m s x run run2 rest rest2 bodies ended (subst (λ (n : ℕ). body_run m s n run2 ≡ Some HasEnded) back ended2) (sym are ∙ are2) in
      let next = one ((cs ++ Open ∷ []) ++ Close x ∷ []) (pre ++ x ∷ []) xs ys o r to other part more rest
      (core_on s cs pre x (turns_of xs ++ last_commands o) (events_of xs ++ last_events o) core first)
      (go_on m s pre xs x o to part rest first a.whole others)
      (go_on m s pre ys x r other more rest (subst (λ (n : ℕ). IsTurn s (events_of pre) n (turns_of ys ++ last_commands r) (events_of ys ++ last_events r)) back second)
      (subst (λ (n : ℕ). IsWholeAt s r (events_of pre ++ events_of (n ∷ ys))) back b.whole) (subst (λ (l : List Answered). Comes m s ys r other more l) (sym calls_same.1) others2)) in
      record { actions = heads same next.actions; last = next.last; comes = next.comes; parts = next.parts }
    where
      heads : x ≡ y → xs ≡ ys → x ∷ xs ≡ y ∷ ys
      heads p q = cc
