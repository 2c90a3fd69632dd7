-- How a run ends whose lanes are in a list.
use Rattle.std.proofs.Common.{◌≡◌, ℕ, zero, suc, ◌<◌, List, [], ◌∷◌, length, get_or, ap, sym, subst, ◌∙◌, arith}
use Rattle.std.specs.Prelude.{Option, None, Some, Ok, Err}
use Rattle.pst_model.specs.ModelTree.{ModelTree}
use Rattle.pst_scen.specs.declared.event.Event.{Event}
use Rattle.pst_scen.specs.declared.scenario.Scenario.{Scenario}
use Rattle.pst_scen.specs.Core.{Core, commands_of}
use Rattle.pst_scen.specs.Trace.{IsWhole, IsLegalTrace, Prefix}
use Rattle.pst_book.specs.Books.{View, with_trace}
use Rattle.pst_lanes.specs.Lanes.{starts_on, ends_on}
use Rattle.pst_exec.specs.Alone.{end_of}
use Rattle.pst_workers.specs.Told.{Told, lane_at}
use Rattle.pst_run_many.specs.declared.stop.LaneStop.{LaneStop}
use Rattle.pst_run_many.specs.Many.{IsBookOn, RunsMany}
use Rattle.pst_run_many.specs.Stops.{Came}
use Rattle.pst_run_many.proofs.Ends.{AllCame, came_whole, book_on, ended_whole, ended_stopped}
use Rattle.pst_run_many.proofs.Finishing.{Comes}

-- ---- lists

module _ {T : Type 0} where
  -- some element
  pub there : (xs : List T) (k : ℕ) → k < length xs → T
  there [] k h = absurd (omega (arith, h))
  there (x ∷ xs) zero h = x
  there (x ∷ xs) (suc k) h = there xs k (omega arith)

module _ {T : Type 0} (tell : T → Told) (m : ModelTree) (s : Scenario) where
  -- each lane came to that, by a trace
  abbrev pub EachCame : Option LaneStop → List Event → List Told → List T → Type 0
  EachCame first trace before lanes = (k : ℕ) (d : T) → k < length lanes → Came m s first k (starts_on k trace) (ends_on k trace) (lane_at before k) (tell (get_or lanes k d))

  -- the lanes tell that
  abbrev pub AreTold : List Told → List T → Type 0
  AreTold after lanes = (k : ℕ) (d : T) → k < length lanes → lane_at after k ≡ tell (get_or lanes k d)

  pub all_at : (count : ℕ) (first : Option LaneStop) (trace : List Event) (before after : List Told) (lanes : List T) → length lanes ≡ count → EachCame first trace before lanes → AreTold after lanes
      → AllCame m s count first trace before after
  all_at count first trace before after lanes many came same k h =
      let low : k < length lanes = omega (arith, many, h) in
      let d = there lanes k low in
      subst (λ (t : Told). Came m s first k (starts_on k trace) (ends_on k trace) (lane_at before k) t) (sym (same k d low)) (came k d low)

  pub all_finished : (old new : View) (count : ℕ) (first : Option LaneStop) (before after : List Told) (lanes now : List T) → length lanes ≡ count → length now ≡ length lanes → EachCame None old.trace before lanes
      → Comes tell m s first old new lanes now → ((k : ℕ) (d : T) → k < length lanes → lane_at after k ≡ tell (get_or now k d)) → AllCame m s count first new.trace before after
  all_finished old new count first before after lanes now many same_many start comes same k h =
      let low : k < length lanes = omega (arith, many, h) in
      let d = there lanes k low in
      let ran = came_whole m s k (starts_on k old.trace) (ends_on k old.trace) (lane_at before k) (tell (get_or lanes k d)) (start k d low) in
      subst (λ (t : Told). Came m s first k (starts_on k new.trace) (ends_on k new.trace) (lane_at before k) t) (sym (same k d low)) (comes k d d (lane_at before k) low ran)

-- ---- books

abbrev pub PrefixesLegal : Type 0
PrefixesLegal = (s : Scenario) (lanes : ℕ) (trace : List Event) → Prefix s lanes trace → IsLegalTrace s lanes trace

-- the same book with more events, and what a look at its trace tells
record IsLater (s : Scenario) (old new : View) : Type 0 where
  pub same : new ≡ with_trace old new.trace
  pub on : IsBookOn s new.plan new.lanes new

later : (s : Scenario) (old new : View) (seen : List Event) → old.scenario ≡ s → new ≡ with_trace old new.trace → seen ≡ new.trace → Core new.scenario new.lanes (commands_of seen) seen → Prefix new.scenario new.lanes seen
    → IsLater s old new
later s old new seen of same is core prefix = record { same = same; on = book_on s new seen (ap (λ (v : View). v.scenario) same ∙ of) is core prefix }

pub end_whole : (m : ModelTree) (s : Scenario) (old new : View) (seen : List Event) (before after : List Told) → old.scenario ≡ s → new ≡ with_trace old new.trace → seen ≡ new.trace
    → Core new.scenario new.lanes (commands_of seen) seen → Prefix new.scenario new.lanes seen → IsWhole s new.trace → ((k : ℕ) → k < old.lanes → starts_on k new.trace ≡ ends_on k new.trace)
    → AllCame m s old.lanes None new.trace before after → RunsMany m s old.plan old.lanes before after (Ok new)
end_whole m s old new seen before after of same is core prefix whole idle came =
    let l = later s old new seen of same is core prefix in
    let lanes : new.lanes ≡ old.lanes = ap (λ (v : View). v.lanes) same in
    subst (λ (v : View). RunsMany m s v.plan v.lanes before after (Ok new)) same
    (ended_whole m s new before after l.on whole (λ k h. idle k (omega (arith, lanes, h))) (λ k h. came k (omega (arith, lanes, h))))

pub end_stopped : (m : ModelTree) (s : Scenario) (old new : View) (seen : List Event) (before after : List Told) (stop : LaneStop) → PrefixesLegal → old.scenario ≡ s → new ≡ with_trace old new.trace → seen ≡ new.trace
    → Core new.scenario new.lanes (commands_of seen) seen → Prefix new.scenario new.lanes seen → stop.lane < old.lanes
    → AllCame m s old.lanes (Some stop) new.trace before after → RunsMany m s old.plan old.lanes before after (Err (end_of new stop.lane stop.broken.action stop.broken.end))
end_stopped m s old new seen before after stop legal of same is core prefix inside came =
    let l = later s old new seen of same is core prefix in
    let lanes : new.lanes ≡ old.lanes = ap (λ (v : View). v.lanes) same in
    subst (λ (v : View). RunsMany m s v.plan v.lanes before after (Err (end_of new stop.lane stop.broken.action stop.broken.end))) same
    (ended_stopped m s new before after stop l.on (legal s new.lanes new.trace l.on.prefix) (omega (arith, lanes, inside)) (λ k h. came k (omega (arith, lanes, h))))
