-- What the caller does alone.
use Rattle.std.proofs.Common.{◌≡◌, ◌≢◌, ℕ, ◌+◌, ◌<◌, ◌≤◌, List, [], ◌∷◌, ◌++◌, length, get_or, set, Bool, true, false, refl, ap, sym, subst, ◌∙◌, ⊎_elim, inl, inr, ◌⊎◌, arith, append-nil, length-append, length-set, get_or-set_same, get_or-set_other}
use Rattle.std.specs.Prelude.{Option, None, Some, Ok, Err, Contains, MatchOption, IsSome, IsTrue, ◌↔◌}
use Rattle.std.specs.Bool.{OnTrue}
use Rattle.std.proofs.lemmas.Bool.{OnTrue_at}
use Rattle.pst_target.specs.declared.call.Call.{Call as Answered}
use Rattle.pst_model.specs.ModelTree.{ModelTree}
use Rattle.pst_scen.specs.declared.event.Event.{Event}
use Rattle.pst_scen.specs.declared.event.Event.TheVariants.{End}
use Rattle.pst_scen.specs.declared.scenario.Scenario.{Scenario}
use Rattle.pst_scen.specs.Trace.{StartsOn, Ended, Runs, IsHeld, IsWhole, IsLegalTrace, starts_of}
use Rattle.pst_legal.specs.Body.{body_run}
use Rattle.pst_book.specs.declared.book.Opened.{Opened}
use Rattle.pst_book.specs.Books.{View, with_trace, IsShut, DidOpen}
use Rattle.pst_lanes.specs.Lanes.{starts_on, ends_on}
use Rattle.pst_lanes.proofs.Lists.{in_starts, ends_in}
use Rattle.pst_lanes.proofs.Starting.{length_starts}
use Rattle.pst_lanes.proofs.Laned.{Begun, starts_push, ends_here, ends_else, ends_stay}
use Rattle.pst_body.specs.declared.ending.BodyEnd.{BodyEnd}
use Rattle.pst_body.specs.Ran.{Ran}
use Rattle.pst_workers.specs.declared.worker.Broken.{Broken}
use Rattle.pst_workers.specs.Told.{Told, LaneRan, LaneBroke}
use Rattle.pst_workers.proofs.Runs.{lane_more}
use Rattle.pst_workers.proofs.Rows.{at_or, any_default}
use Rattle.pst_run_many.specs.declared.stop.LaneStop.{LaneStop}
use Rattle.pst_run_many.specs.Alone.{GoesOn, HasOpened, LaneIsIdle, LaneIsBroken}
use Rattle.pst_run_many.specs.Stops.{Came}
use Rattle.pst_run_many.proofs.Ends.{came_whole}

pub goes_on_none : (book : View) → GoesOn book book
goes_on_none book = record { same = refl; longer = omega arith }

pub goes_on_more : (old middle new : View) → GoesOn old middle → GoesOn middle new → GoesOn old new
goes_on_more old middle new first second =
    let a = first.longer in
    let b = second.longer in
    record { same = second.same ∙ ap (λ (v : View). with_trace v new.trace) first.same; longer = omega (arith, a, b) }

-- ---- one lane

pub lane_idle : (m : ModelTree) (s : Scenario) (lane : ℕ) (book : View) (t : Told) → starts_on lane book.trace ≡ ends_on lane book.trace ++ [] → LaneIsIdle m s lane book book t t
lane_idle m s lane book t starts = record {
  goes_on = goes_on_none book;
  starts = λ k. refl;
  others = λ k ne. refl;
  here = starts ∙ append-nil (ends_on lane book.trace);
  ran = λ first ran. ran;
}

pub lane_ended : (m : ModelTree) (s : Scenario) (lane a : ℕ) (old new : View) (before after : Told) (ended : Bool) → old.scenario ≡ s → ((b l k : ℕ) → StartsOn old.trace b l → StartsOn old.trace b k → l ≡ k)
    → StartsOn old.trace a lane → (Ended old.trace a → ⊥) → starts_on lane old.trace ≡ ends_on lane old.trace ++ a ∷ []
    → Ran {A = Unit {0}} (body_run m s a) before.calls after.calls before.faults after.faults (Ok tt)
    → (IsTrue ended ↔ Runs old.trace a) → OnTrue ended (new ≡ with_trace old (old.trace ++ End a ∷ [])) → LaneIsIdle m s lane old new before after
lane_ended m s lane a old new before after ended of one on still starts ran is ends =
    let t = old.trace in
    let new_is : new ≡ with_trace old (t ++ End a ∷ []) = OnTrue_at (is.1 ((lane, on), still)) ends in
    let trace : new.trace ≡ t ++ End a ∷ [] = ap (λ (v : View). v.trace) new_is in
    let longer = ap (λ (es : List Event). length es) trace in
    let here : ends_on lane new.trace ≡ ends_on lane t ++ a ∷ [] = ap (λ (es : List Event). ends_on lane es) trace ∙ ends_here t a lane on in
    record {
      goes_on = record { same = new_is ∙ ap (λ (es : List Event). with_trace old es) (sym trace); longer = omega (arith, longer, length-append t (End a ∷ [])) };
      starts = λ k. ap (λ (es : List Event). starts_on k es) trace ∙ starts_push t a k;
      others = λ k ne. ap (λ (es : List Event). ends_on k es) trace ∙ ends_else t a k (λ other. ne (one a k lane other on));
      here = ap (λ (es : List Event). starts_on lane es) trace ∙ starts_push t a lane ∙ starts ∙ sym here;
      ran = λ first whole. subst (λ (acts : List ℕ). LaneRan m s acts first after) (sym here) (lane_more m s (ends_on lane t) a first before after whole ran);
    }

pub lane_broke : (m : ModelTree) (s : Scenario) (lane a : ℕ) (end : BodyEnd) (book : View) (before after : Told) → starts_on lane book.trace ≡ ends_on lane book.trace ++ a ∷ []
    → Ran {A = Unit {0}} (body_run m s a) before.calls after.calls before.faults after.faults (Err end)
    → LaneIsBroken m s lane book book before after (record { lane = lane; broken = record { action = a; end = end } })
lane_broke m s lane a end book before after starts ran = record {
  same = refl;
  lane_is = refl;
  runs = starts;
  broke = λ first whole. record { between = before; ran = whole; broke = ran };
}

-- ---- all lanes

-- The first lanes are idle, and where a lane's calls were the runs of what had ended there, they still are.
pub record Finished {T : Type 0} (tell : T → Told) (m : ModelTree) (s : Scenario) (old new : View) (lanes now : List T) (number : ℕ) : Type 0 where
  pub goes_on : GoesOn old new
  pub count : length now ≡ length lanes
  pub starts : (k : ℕ) → starts_on k new.trace ≡ starts_on k old.trace
  pub idle : (k : ℕ) → k < number → starts_on k new.trace ≡ ends_on k new.trace
  pub ran : (k : ℕ) (d e : T) (before : Told) → k < length lanes → LaneRan m s (ends_on k old.trace) before (tell (get_or lanes k d)) → LaneRan m s (ends_on k new.trace) before (tell (get_or now k e))

module _ {T : Type 0} (tell : T → Told) (m : ModelTree) (s : Scenario) where
  pub finished_none : (book : View) (lanes : List T) → Finished tell m s book book lanes lanes 0
  finished_none book lanes = record {
    goes_on = goes_on_none book;
    count = refl;
    starts = λ k. refl;
    idle = λ k low. absurd (omega (arith, low));
    ran = λ k d e before h ran. subst (λ (t : T). LaneRan m s (ends_on k book.trace) before (tell t)) (any_default lanes k d e h) ran;
  }

  -- one lane more
  pub finished_more : (old middle new : View) (lanes now : List T) (number : ℕ) (was x : T) → number < length lanes → was ≡ get_or now number was → Finished tell m s old middle lanes now number
      → LaneIsIdle m s number middle new (tell was) (tell x) → Finished tell m s old new lanes (set now number x) (number + 1)
  finished_more old middle new lanes now number was x inside was_is f idle =
      let count = f.count in
      let here : number < length now = omega (arith, inside, count) in
      record {
        goes_on = goes_on_more old middle new f.goes_on idle.goes_on;
        count = length-set now number x ∙ f.count;
        starts = λ k. idle.starts k ∙ f.starts k;
        idle = λ k low. at_or (λ j. j < number + 1 → starts_on j new.trace ≡ ends_on j new.trace) number k (λ _. idle.here)
            (λ ne h. idle.starts k ∙ f.idle k (omega (arith, h, ne)) ∙ sym (idle.others k ne)) low;
        ran = λ k d e before h ran. at_or
            (λ j. j < length lanes → LaneRan m s (ends_on j old.trace) before (tell (get_or lanes j d)) → LaneRan m s (ends_on j new.trace) before (tell (get_or (set now number x) j e)))
            number k
            (λ h' ran'. subst (λ (t : T). LaneRan m s (ends_on number new.trace) before (tell t)) (sym (get_or-set_same now number x e here))
            (idle.ran before (subst (λ (t : T). LaneRan m s (ends_on number middle.trace) before (tell t)) (sym was_is) (f.ran number d was before h' ran'))))
            (λ ne h' ran'. subst (λ (t : T). LaneRan m s (ends_on k new.trace) before (tell t)) (sym (get_or-set_other now number k x e ne))
            (subst (λ (acts : List ℕ). LaneRan m s acts before (tell (get_or now k e))) (sym (idle.others k ne)) (f.ran k d e before h' ran')))
            h ran;
      }

  -- each lane, where all of them are idle
  pub all_came : (old new : View) (lanes now : List T) (number : ℕ) → Finished tell m s old new lanes now number → (k : ℕ) (d e : T) (before : Told) → k < length lanes
      → LaneRan m s (ends_on k old.trace) before (tell (get_or lanes k d)) → Came m s None k (starts_on k new.trace) (ends_on k new.trace) before (tell (get_or now k e))
  all_came old new lanes now number f k d e before h ran = record { stop = None; come = f.ran k d e before h ran; allowed = refl }

  -- each lane, where the body of one of them didn't end
  pub one_broke : (old middle new : View) (lanes now : List T) (number : ℕ) (was x : T) (stop : LaneStop) → number < length lanes → was ≡ get_or now number was → Finished tell m s old middle lanes now number
      → LaneIsBroken m s number middle new (tell was) (tell x) stop → (k : ℕ) (d e : T) (before : Told) → k < length lanes
      → LaneRan m s (ends_on k old.trace) before (tell (get_or lanes k d)) → Came m s (Some stop) k (starts_on k new.trace) (ends_on k new.trace) before (tell (get_or (set now number x) k e))
  one_broke old middle new lanes now number was x stop inside was_is f broke k d e before h ran =
      subst (λ (v : View). Came m s (Some stop) k (starts_on k v.trace) (ends_on k v.trace) before (tell (get_or (set now number x) k e))) (sym broke.same)
      (at_or
      (λ j. j < length lanes → LaneRan m s (ends_on j old.trace) before (tell (get_or lanes j d)) → Came m s (Some stop) j (starts_on j middle.trace) (ends_on j middle.trace) before (tell (get_or (set now number x) j e)))
      number k
      (λ h' ran'. record {
        stop = Some stop.broken;
        come = (
          broke.runs,
          subst (λ (t : T). LaneBroke m s (ends_on number middle.trace) stop.broken before (tell t)) (sym (get_or-set_same now number x e here))
              (broke.broke before (subst (λ (t : T). LaneRan m s (ends_on number middle.trace) before (tell t)) (sym was_is) (f.ran number d was before h' ran'))),
        );
        allowed = (λ _. refl, λ memory. (let own = broke.lane_is in omega (arith, own), memory));
      })
      (λ ne h' ran'. record {
        stop = None;
        come = subst (λ (t : T). LaneRan m s (ends_on k middle.trace) before (tell t)) (sym (get_or-set_other now number k x e ne)) (f.ran k d e before h' ran');
        allowed = (λ own. absurd (ne (own ∙ broke.lane_is)), λ memory. tt);
      })
      h ran)
    where
      here : number < length now
      here = let count = f.count in omega (arith, inside, count)

-- ---- opening

-- where every lane is idle nothing runs
pub nothing_runs : (trace : List Event) (lanes : ℕ) → ((a lane : ℕ) → StartsOn trace a lane → lane < lanes) → ((k : ℕ) → k < lanes → starts_on k trace ≡ ends_on k trace) → (a : ℕ) → Runs trace a → ⊥
nothing_runs trace lanes inside idle a ((lane, on), still) =
    still (ends_in (starts_on lane trace) trace a (subst (λ (acts : List ℕ). Contains acts a) (idle lane (inside a lane on)) (in_starts lane trace a on)))

did_open : (old new : View) (first count : ℕ) → Begun old.trace → DidOpen old new first count → HasOpened old new
did_open old new first count begun did =
    let trace : new.trace ≡ old.trace ++ starts_of did.members did.used = ap (λ (v : View). v.trace) did.new_is in
    let e = ap (λ (es : List Event). length es) trace in
    let l = length_starts did.members did.used in
    let some = did.opens.ready.group.some in
    let many = did.opens.free.many in
    record {
      same = did.new_is ∙ ap (λ (es : List Event). with_trace old es) (sym trace);
      longer = omega (arith, e, length-append old.trace (starts_of did.members did.used), l, some, many);
      ends = λ k. ap (λ (es : List Event). ends_on k es) trace ∙ ends_stay old.trace did.members did.used k begun did.opens.ready.fresh;
    }

pub opens : (o : Option Opened) (old new : View) → Begun old.trace → ((a : ℕ) → Runs old.trace a → ⊥) → (IsWhole old.scenario old.trace → ⊥)
    → MatchOption o ((new ≡ old) × IsShut old) (λ x. DidOpen old new x.first x.count)
    → (((a : ℕ) → Runs old.trace a → ⊥) → (IsWhole old.scenario old.trace → ⊥) → IsSome o) → HasOpened old new
opens None old new begun nothing left step goes_on = let no : false ≡ true = goes_on nothing left in absurd cc
opens (Some x) old new begun nothing left step goes_on = did_open old new x.first x.count begun step

-- ---- rounds

pub round_goes_on : (old middle opened new : View) → GoesOn old middle → HasOpened middle opened → GoesOn opened new → GoesOn old new
round_goes_on old middle opened new first opens second =
    let longer = opens.longer in
    goes_on_more old opened new (goes_on_more old middle opened first (record { same = opens.same; longer = omega (arith, longer) })) second

-- Every lane is idle, and where a lane's calls were the runs of what had ended there, they still are.
pub record Went {T : Type 0} (tell : T → Told) (m : ModelTree) (s : Scenario) (old new : View) (lanes now : List T) : Type 0 where
  pub goes_on : GoesOn old new
  pub count : length now ≡ length lanes
  pub idle : (k : ℕ) → k < length lanes → starts_on k new.trace ≡ ends_on k new.trace
  pub ran : (k : ℕ) (d e : T) (before : Told) → k < length lanes → LaneRan m s (ends_on k old.trace) before (tell (get_or lanes k d)) → LaneRan m s (ends_on k new.trace) before (tell (get_or now k e))

module _ {T : Type 0} where
  -- what a run of all that runs makes of each lane, where that lane is told
  abbrev pub Comes : (T → Told) → ModelTree → Scenario → Option LaneStop → View → View → List T → List T → Type 0
  Comes tell m s first old new lanes now =
      (k : ℕ) (d e : T) (before : Told) → k < length lanes → LaneRan m s (ends_on k old.trace) before (tell (get_or lanes k d)) → Came m s first k (starts_on k new.trace) (ends_on k new.trace) before (tell (get_or now k e))

module _ {T : Type 0} (tell : T → Told) (m : ModelTree) (s : Scenario) where
  pub went_first : (old new : View) (lanes now : List T) → GoesOn old new → length now ≡ length lanes → ((k : ℕ) → k < length lanes → starts_on k new.trace ≡ ends_on k new.trace) → Comes tell m s None old new lanes now
      → Went tell m s old new lanes now
  went_first old new lanes now goes_on count idle came = record {
    goes_on = goes_on;
    count = count;
    idle = idle;
    ran = λ k d e before h ran. came_whole m s k (starts_on k new.trace) (ends_on k new.trace) before (tell (get_or now k e)) (came k d e before h ran);
  }

  -- one round more
  pub comes_more : (first : Option LaneStop) (old middle opened new : View) (lanes now next : List T) → Went tell m s old middle lanes now → HasOpened middle opened → Comes tell m s first opened new now next
      → Comes tell m s first old new lanes next
  comes_more first old middle opened new lanes now next went opens came k d e before h ran =
      let count = went.count in
      came k d e before (omega (arith, count, h)) (subst (λ (acts : List ℕ). LaneRan m s acts before (tell (get_or now k d))) (sym (opens.ends k)) (went.ran k d d before h ran))

  pub went_more : (old middle opened new : View) (lanes now next : List T) → Went tell m s old middle lanes now → HasOpened middle opened → GoesOn opened new → length next ≡ length now
      → ((k : ℕ) → k < length now → starts_on k new.trace ≡ ends_on k new.trace) → Comes tell m s None opened new now next → Went tell m s old new lanes next
  went_more old middle opened new lanes now next went opens goes_on count idle came =
      let before = went.count in
      went_first old new lanes next (round_goes_on old middle opened new went.goes_on opens goes_on) (count ∙ before) (λ k h. idle k (omega (arith, before, h)))
      (comes_more None old middle opened new lanes now next went opens came)
