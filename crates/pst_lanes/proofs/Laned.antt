-- What a legal trace keeps of its lanes.
use Rattle.std.proofs.Common.{◌≡◌, ℕ, ◌≤◌, List, [], ◌∷◌, ◌++◌, length, refl, sym, ap, ◌∙◌, subst, ⊎_elim, arith, append-nil}
use Rattle.std.specs.Prelude.{Contains, nat_eq, Option, None, Some}
use Rattle.std.specs.List.{count_by, list_any}
use Rattle.std.specs.Option.{option_to_list}
use Rattle.std.proofs.lemmas.List.Elements.{Contains-append_right, Contains-append_cases}
use Rattle.pst_scen.specs.declared.scenario.Scenario.{Scenario}
use Rattle.pst_scen.specs.declared.event.Event.{Event}
use Rattle.pst_scen.specs.declared.event.Event.TheVariants.{Start, End}
use Rattle.pst_scen.specs.Trace.{StartsOn, Started, Ended, Runs, IsHeld, AreLegal, IsLegalTrace, Block, Starts, Ends, starts_of, events}
use Rattle.pst_lanes.specs.Lanes.{only_if, starts_on, ends_among, ends_on, is_start, IsRunning}
use Rattle.pst_lanes.proofs.Elements.{none_in, cons_first, one_in, contains_or, Distinct, ascending_distinct}
use Rattle.pst_lanes.proofs.Events.{ended_cases, ended_more, ended_new, starts_on_cases, starts_on_more, started_more, starts_no_end, starts_member, starts_lane, end_is, end_no_start}
use Rattle.pst_lanes.proofs.Lists.{starts_append, ends_append, in_starts, starts_in, any_false, true_any, ends_in, ends_same}
use Rattle.pst_lanes.proofs.Starting.{no_ends, starts_else, starts_here, starts_one_lane}
use Rattle.pst_lanes.proofs.Counting.{count_append, count_none, count_block}

abbrev pub Begun : List Event → Type 0
Begun t = (a : ℕ) → Ended t a → Started t a

-- the starts of a lane are its ends, and then what runs there
pub record IsLaned (t : List Event) (lane : ℕ) : Type 0 where
  pub running : Option ℕ
  pub starts : starts_on lane t ≡ ends_on lane t ++ option_to_list running
  pub runs : IsRunning t lane running

pub record AreLaned (t : List Event) : Type 0 where
  pub begun : Begun t
  pub one_lane : (a l k : ℕ) → StartsOn t a l → StartsOn t a k → l ≡ k
  pub once : (a : ℕ) → count_by (is_start a) t ≤ 1
  pub lanes : (lane : ℕ) → IsLaned t lane

pub laned_none : AreLaned []
laned_none =
    record {
      begun = λ a e. absurd (none_in (End a) e);
      one_lane = λ a l k p q. absurd (none_in (Start a l p.0) p.1);
      once = λ a. omega arith;
      lanes = λ lane. record { running = None; starts = refl; runs = λ h. none_in (Start h.0 lane h.1.0) h.1.1 };
    }

-- A BLOCK OF STARTS

-- the ends of a lane stay
pub ends_stay : (t : List Event) (ms us : List ℕ) (lane : ℕ) → Begun t → ((a : ℕ) → Contains ms a → Started t a → ⊥) → ends_on lane (t ++ starts_of ms us) ≡ ends_on lane t
ends_stay t ms us lane begun fresh =
    let u = starts_of ms us in
    ap (λ xs. ends_among xs (t ++ u)) (starts_append lane t u)
    ∙ (ends_append (starts_on lane t ++ starts_on lane u) t u
    ∙ (ap (λ xs. ends_among (starts_on lane t ++ starts_on lane u) t ++ xs) (no_ends (starts_on lane t ++ starts_on lane u) ms us)
    ∙ (append-nil (ends_among (starts_on lane t ++ starts_on lane u) t)
    ∙ ends_same (starts_on lane t) (starts_on lane u) t (λ a c e. fresh a (starts_member ms us a (lane, starts_in lane u a c)) (begun a e)))))

pub begun_stays : (t : List Event) (ms us : List ℕ) → Begun t → Begun (t ++ starts_of ms us)
begun_stays t ms us begun a e = ⊎_elim (λ k. started_more t (starts_of ms us) a (begun a k)) (λ k. absurd (starts_no_end ms us a k)) (ended_cases t (starts_of ms us) a e)

-- an action that runs goes on, and so does a lane that is held
pub held_stays : (t : List Event) (ms us : List ℕ) (lane : ℕ) → IsHeld t lane → IsHeld (t ++ starts_of ms us) lane
held_stays t ms us lane h = (h.0, starts_on_more t (starts_of ms us) h.0 lane h.1, λ e. ⊎_elim h.2 (λ k. starts_no_end ms us h.0 k) (ended_cases t (starts_of ms us) h.0 e))

module _ (t : List Event) (ms us : List ℕ) (laned : AreLaned t) (fresh : (a : ℕ) → Contains ms a → Started t a → ⊥) (apart : Distinct ms) (many : length us ≡ length ms) (different : Distinct us) (idle : (l : ℕ) → Contains us l → IsHeld t l → ⊥) where
  abbrev now : List Event
  now = t ++ starts_of ms us

  one_lane_now : (a l k : ℕ) → StartsOn now a l → StartsOn now a k → l ≡ k
  one_lane_now a l k p q =
      ⊎_elim
      (λ p'. ⊎_elim (λ q'. laned.one_lane a l k p' q') (λ q'. absurd (fresh a (starts_member ms us a (k, q')) (l, p'))) (starts_on_cases t (starts_of ms us) a k q))
      (λ p'. ⊎_elim (λ q'. absurd (fresh a (starts_member ms us a (l, p')) (k, q'))) (λ q'. starts_one_lane ms us apart a l k p' q') (starts_on_cases t (starts_of ms us) a k q))
      (starts_on_cases t (starts_of ms us) a l p)

  once_now : (a : ℕ) → count_by (is_start a) now ≤ 1
  once_now a =
      let sum = count_append a t (starts_of ms us) in
      ⊎_elim
      (λ c. let none = count_none a t (fresh a c) in let few = count_block a ms us apart in omega (arith, sum, none, few))
      (λ n. let none = count_none a (starts_of ms us) (λ h. n (starts_member ms us a h)) in let few = laned.once a in omega (arith, sum, none, few))
      (contains_or ms a)

  -- a lane of the block was idle, and one action starts there
  used_lane : (lane : ℕ) → Contains us lane → IsLaned t lane → IsLaned now lane
  used_lane lane c was = by_running was.running was.starts was.runs
    where
      new : (a : ℕ) × (starts_on lane (starts_of ms us) ≡ a ∷ [])
      new = starts_here lane ms us many different c

      starts_now : starts_on lane now ≡ starts_on lane t ++ new.0 ∷ []
      starts_now = starts_append lane t (starts_of ms us) ∙ ap (λ xs. starts_on lane t ++ xs) new.1

      here : StartsOn (starts_of ms us) new.0 lane
      here = starts_in lane (starts_of ms us) new.0 (subst (λ xs. Contains xs new.0) (sym new.1) (cons_first new.0 []))

      by_running : (o : Option ℕ) → starts_on lane t ≡ ends_on lane t ++ option_to_list o → IsRunning t lane o → IsLaned now lane
      by_running None e r =
          record {
            running = Some new.0;
            starts = starts_now ∙ ap (λ xs. xs ++ new.0 ∷ []) (e ∙ append-nil (ends_on lane t) ∙ sym (ends_stay t ms us lane laned.begun fresh));
            runs = (
              starts_in lane now new.0 (subst (λ xs. Contains xs new.0) (sym starts_now) (Contains-append_right (starts_on lane t) (new.0 ∷ []) new.0 (cons_first new.0 []))),
              λ h. ⊎_elim (λ k. fresh new.0 (starts_member ms us new.0 (lane, here)) (laned.begun new.0 k)) (λ k. starts_no_end ms us new.0 k) (ended_cases t (starts_of ms us) new.0 h),
            );
          }
      by_running (Some a) e r = absurd (idle lane c (a, r.0, r.1))

  -- on another lane all stays
  other_lane : (lane : ℕ) → (Contains us lane → ⊥) → IsLaned t lane → IsLaned now lane
  other_lane lane n was =
      record {
        running = was.running;
        starts = starts_append lane t (starts_of ms us) ∙ ap (λ xs. starts_on lane t ++ xs) (starts_else lane ms us n) ∙ append-nil (starts_on lane t) ∙ was.starts
            ∙ ap (λ xs. xs ++ option_to_list was.running) (sym (ends_stay t ms us lane laned.begun fresh));
        runs = still was.running was.runs;
      }
    where
      still : (o : Option ℕ) → IsRunning t lane o → IsRunning now lane o
      still None r = λ h. r (
        h.0,
        ⊎_elim (λ k. k) (λ k. absurd (n (starts_lane ms us h.0 lane k))) (starts_on_cases t (starts_of ms us) h.0 lane h.1),
        λ e. h.2 (ended_more t (starts_of ms us) h.0 e),
      )
      still (Some a) r = (starts_on_more t (starts_of ms us) a lane r.0, λ e. ⊎_elim r.1 (λ k. starts_no_end ms us a k) (ended_cases t (starts_of ms us) a e))

  pub laned_start : AreLaned now
  laned_start =
      record {
        begun = begun_stays t ms us laned.begun;
        one_lane = one_lane_now;
        once = once_now;
        lanes = λ lane. ⊎_elim (λ c. used_lane lane c (laned.lanes lane)) (λ n. other_lane lane n (laned.lanes lane)) (contains_or us lane);
      }

-- AN END

pub starts_push : (t : List Event) (a lane : ℕ) → starts_on lane (t ++ End a ∷ []) ≡ starts_on lane t
starts_push t a lane = starts_append lane t (End a ∷ []) ∙ append-nil (starts_on lane t)

ends_push : (t : List Event) (a lane : ℕ) → ends_on lane (t ++ End a ∷ []) ≡ ends_on lane t ++ only_if (list_any (nat_eq a) (starts_on lane t)) a
ends_push t a lane =
    ap (λ xs. ends_among xs (t ++ End a ∷ [])) (starts_push t a lane)
    ∙ (ends_append (starts_on lane t) t (End a ∷ []) ∙ ap (λ xs. ends_on lane t ++ xs) (append-nil (only_if (list_any (nat_eq a) (starts_on lane t)) a)))

-- on its lane
pub ends_here : (t : List Event) (a lane : ℕ) → StartsOn t a lane → ends_on lane (t ++ End a ∷ []) ≡ ends_on lane t ++ a ∷ []
ends_here t a lane on = ends_push t a lane ∙ ap (λ b. ends_on lane t ++ only_if b a) (true_any a (starts_on lane t) (in_starts lane t a on))

-- and on another
pub ends_else : (t : List Event) (a lane : ℕ) → (StartsOn t a lane → ⊥) → ends_on lane (t ++ End a ∷ []) ≡ ends_on lane t
ends_else t a lane n =
    ends_push t a lane ∙ ap (λ b. ends_on lane t ++ only_if b a) (any_false a (starts_on lane t) (λ c. n (starts_in lane t a c))) ∙ append-nil (ends_on lane t)

pub held_still : (t : List Event) (a b lane : ℕ) → StartsOn t b lane → (Ended t b → ⊥) → (a ≡ b → ⊥) → IsHeld (t ++ End a ∷ []) lane
held_still t a b lane on n other = (b, starts_on_more t (End a ∷ []) b lane on, λ e. ⊎_elim n (λ k. other (end_is a b k)) (ended_cases t (End a ∷ []) b e))

is_it : (o : Option ℕ) (a : ℕ) → Contains (option_to_list o) a → o ≡ Some a
is_it None a c = absurd (none_in a c)
is_it (Some b) a c = ap (λ v. Some v) (one_in b a c)

-- what starts on a lane and hasn't ended is what runs there
pub runs_alone : (t : List Event) (lane : ℕ) (o : Option ℕ) → starts_on lane t ≡ ends_on lane t ++ option_to_list o → (a : ℕ) → StartsOn t a lane → (Ended t a → ⊥) → o ≡ Some a
runs_alone t lane o e a on n =
    ⊎_elim (λ c. absurd (n (ends_in (starts_on lane t) t a c))) (λ c. is_it o a c)
    (Contains-append_cases (ends_on lane t) (option_to_list o) a (subst (λ xs. Contains xs a) e (in_starts lane t a on)))

pub same_running : (t : List Event) (lane : ℕ) (was : IsLaned t lane) (o : Option ℕ) → IsRunning t lane o → was.running ≡ o
same_running t lane was None r = by_running was.running was.runs
  where
    by_running : (o : Option ℕ) → IsRunning t lane o → o ≡ None
    by_running None q = refl
    by_running (Some b) q = absurd (r (b, q.0, q.1))
same_running t lane was (Some a) r = runs_alone t lane was.running was.starts a r.0 r.1

module _ (t : List Event) (a : ℕ) (laned : AreLaned t) (runs : Runs t a) where
  abbrev after : List Event
  after = t ++ End a ∷ []

  on_before : (b l : ℕ) → StartsOn after b l → StartsOn t b l
  on_before b l h = ⊎_elim (λ k. k) (λ k. absurd (end_no_start a b (l, k))) (starts_on_cases t (End a ∷ []) b l h)

  begun_after : Begun after
  begun_after b e =
      ⊎_elim (λ k. started_more t (End a ∷ []) b (laned.begun b k)) (λ k. started_more t (End a ∷ []) b (subst (λ v. Started t v) (end_is a b k) runs.0))
      (ended_cases t (End a ∷ []) b e)

  once_after : (b : ℕ) → count_by (is_start b) after ≤ 1
  once_after b =
      let sum = count_append b t (End a ∷ []) in
      let none = count_none b (End a ∷ []) (λ h. end_no_start a b h) in
      let few = laned.once b in
      omega (arith, sum, none, few)

  -- the lane of the action is idle after it
  its_lane : (lane : ℕ) → StartsOn t a lane → IsLaned t lane → IsLaned after lane
  its_lane lane on was =
      record {
        running = None;
        starts = starts_push t a lane ∙ was.starts ∙ ap (λ o. ends_on lane t ++ option_to_list o) own ∙ sym (ends_here t a lane on) ∙ sym (append-nil (ends_on lane after));
        runs = λ h. runs_still h;
      }
    where
      own : was.running ≡ Some a
      own = runs_alone t lane was.running was.starts a on runs.1

      some_same : (x y : ℕ) → Some x ≡ Some y → x ≡ y
      some_same x y e = cc

      runs_still : IsHeld after lane → ⊥
      runs_still h =
          let other = runs_alone t lane was.running was.starts h.0 (on_before h.0 lane h.1) (λ e. h.2 (ended_more t (End a ∷ []) h.0 e)) in
          h.2 (subst (λ v. Ended after v) (some_same a h.0 (sym own ∙ other)) (ended_new t (End a ∷ []) a (cons_first (End a) [])))

  other_lane_after : (lane : ℕ) → (StartsOn t a lane → ⊥) → IsLaned t lane → IsLaned after lane
  other_lane_after lane n was =
      record {
        running = was.running;
        starts = starts_push t a lane ∙ was.starts ∙ ap (λ xs. xs ++ option_to_list was.running) (sym (ends_else t a lane n));
        runs = still was.running was.runs;
      }
    where
      still : (o : Option ℕ) → IsRunning t lane o → IsRunning after lane o
      still None r = λ h. r (h.0, on_before h.0 lane h.1, λ e. h.2 (ended_more t (End a ∷ []) h.0 e))
      still (Some b) r = (
        starts_on_more t (End a ∷ []) b lane r.0,
        λ e. ⊎_elim r.1 (λ k. n (subst (λ v. StartsOn t v lane) (sym (end_is a b k)) r.0)) (ended_cases t (End a ∷ []) b e),
      )

  pub laned_end : AreLaned after
  laned_end =
      record {
        begun = begun_after;
        one_lane = λ b l k p q. laned.one_lane b l k (on_before b l p) (on_before b k q);
        once = once_after;
        lanes = λ lane. ⊎_elim (λ c. its_lane lane (starts_in lane t a c) (laned.lanes lane)) (λ n. other_lane_after lane (λ h. n (in_starts lane t a h)) (laned.lanes lane))
            (contains_or (starts_on lane t) a);
      }

-- LEGAL TRACES

pub laned_blocks : (s : Scenario) (lanes : ℕ) (h : List Block) → AreLegal s lanes h → AreLaned (events h)
laned_blocks s lanes [] k = laned_none
laned_blocks s lanes (Starts ms us ∷ h) k =
    laned_start (events h) ms us (laned_blocks s lanes h k.0) k.1.fresh (ascending_distinct ms k.1.group.ascending) k.1.free.many
    (λ i j l m e. k.1.free.different i j l m e) (λ l c. k.1.free.idle l c)
laned_blocks s lanes (Ends a ∷ h) k = laned_end (events h) a (laned_blocks s lanes h k.0) k.1

pub laned_trace : (s : Scenario) (lanes : ℕ) (t : List Event) → IsLegalTrace s lanes t → AreLaned t
laned_trace s lanes t legal = subst (λ v. AreLaned v) legal.are (laned_blocks s lanes legal.blocks legal.legal)
