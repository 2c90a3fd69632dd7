-- The turns of a worker.
use Rattle.std.proofs.Common.{◌≡◌, ◌≤◌, ℕ, List, [], ◌∷◌, ◌++◌, length, ap, sym, subst, ◌∙◌, arith, length-append}
use Rattle.std.specs.Prelude.{Bool, true, None, Some, Ok, Err}
use Rattle.atomic_table.specs.Seated.{TableId}
use Rattle.pst_model.specs.ModelTree.{ModelTree}
use Rattle.pst_scen.specs.declared.event.Event.{Event}
use Rattle.pst_scen.specs.declared.scenario.Scenario.{Scenario}
use Rattle.pst_scen.specs.Plan.{Entries}
use Rattle.pst_scen.specs.Trace.{IsWhole, starts_of}
use Rattle.pst_legal.specs.Body.{body_run}
use Rattle.pst_body.specs.declared.ending.BodyEnd.{BodyEnd}
use Rattle.pst_body.specs.Ran.{Ran}
use Rattle.pst_post.specs.Seats.{LaneState, fresh_seat}
use Rattle.pst_post.specs.Steps.{after_hand_back}
use Rattle.pst_book.specs.Books.{View}
use Rattle.pst_desk.specs.Desks.{book_of}
use Rattle.pst_desk.specs.Turning.{OpensGroups, NoGroup, OneMore}
use Rattle.pst_workers.specs.Told.{Told, LaneRan}
use Rattle.pst_workers.specs.Worked.{Worked}
use Rattle.pst_workers.proofs.Runs.{lane_none, lane_more}

-- between two actions: all that was fetched was handed back, and ran
pub record Working (m : ModelTree) (s : Scenario) (table : TableId) (lane : ℕ) (before after : Told) (seat : LaneState) : Type 0 where
  pub table_is : seat.table ≡ table
  pub lane_is : seat.lane ≡ lane
  pub idle : seat.fetched ≡ seat.finished
  pub ran : LaneRan m s seat.finished before after

-- what a wait for an action leaves of the seat
pub record Kept (old new : LaneState) : Type 0 where
  pub table : new.table ≡ old.table
  pub lane : new.lane ≡ old.lane
  pub finished : new.finished ≡ old.finished

pub working_start : (m : ModelTree) (s : Scenario) (table : TableId) (seat : LaneState) (t : Told) → seat ≡ fresh_seat table seat.lane → Working m s table seat.lane t t seat
working_start m s table seat t is =
    let none : seat.finished ≡ [] = ap (λ (x : LaneState). x.finished) is in
    record {
      table_is = ap (λ (x : LaneState). x.table) is;
      lane_is = λ i. seat.lane;
      idle = ap (λ (x : LaneState). x.fetched) is ∙ sym none;
      ran = subst (λ (acts : List ℕ). LaneRan m s acts t t) (sym none) (lane_none m s t);
    }

pub working_next : (m : ModelTree) (s : Scenario) (table : TableId) (lane a : ℕ) (before between after : Told) (old fetched handed : LaneState)
    → Working m s table lane before between old → Kept old fetched → fetched.fetched ≡ old.fetched ++ a ∷ []
    → Ran {A = Unit {0}} (body_run m s a) between.calls after.calls between.faults after.faults (Ok tt) → handed ≡ after_hand_back fetched
    → Working m s table lane before after handed
working_next m s table lane a before between after old fetched handed w kept more one is =
    let acts : handed.finished ≡ old.finished ++ a ∷ [] = ap (λ (x : LaneState). x.finished) is ∙ more ∙ ap (λ (l : List ℕ). l ++ a ∷ []) w.idle in
    record {
      table_is = ap (λ (x : LaneState). x.table) is ∙ kept.table ∙ w.table_is;
      lane_is = ap (λ (x : LaneState). x.lane) is ∙ kept.lane ∙ w.lane_is;
      idle = ap (λ (x : LaneState). x.fetched) is ∙ sym (ap (λ (x : LaneState). x.finished) is);
      ran = subst (λ (l : List ℕ). LaneRan m s l before after) (sym acts) (lane_more m s old.finished a before between after w.ran one);
    }

-- nothing more came, or what came isn't run
pub working_ends : (m : ModelTree) (s : Scenario) (table : TableId) (lane : ℕ) (stopped : Bool) (before after : Told) (old new : LaneState)
    → Working m s table lane before after old → Kept old new → Worked m s table lane before after new None stopped
working_ends m s table lane stopped before after old new w kept = record {
  table_is = kept.table ∙ w.table_is;
  lane_is = kept.lane ∙ w.lane_is;
  run = subst (λ (l : List ℕ). LaneRan m s l before after) (sym kept.finished) w.ran;
  left = tt;
}

-- a body didn't end, and the desk was stopped
pub working_breaks : (m : ModelTree) (s : Scenario) (table : TableId) (lane a : ℕ) (end : BodyEnd) (stopped : Bool) (before between after : Told) (old new : LaneState)
    → Working m s table lane before between old → Kept old new → new.fetched ≡ old.fetched ++ a ∷ []
    → Ran {A = Unit {0}} (body_run m s a) between.calls after.calls between.faults after.faults (Err end)
    → stopped ≡ true → Worked m s table lane before after new (Some (record { action = a; end = end })) stopped
working_breaks m s table lane a end stopped before between after old new w kept more broke is = record {
  table_is = kept.table ∙ w.table_is;
  lane_is = kept.lane ∙ w.lane_is;
  run = (
    more ∙ ap (λ (l : List ℕ). l ++ a ∷ []) (w.idle ∙ sym kept.finished),
    record {
      between = between;
      ran = subst (λ (l : List ℕ). LaneRan m s l before between) (sym kept.finished) w.ran;
      broke = broke;
    },
  );
  left = is;
}

-- a desk whose book is finished has a whole trace
pub over : (s : Scenario) (plan : Entries) (lanes : ℕ) (trace : List Event) (book : View) → book ≡ book_of s plan lanes trace → IsWhole book.scenario book.trace → IsWhole s trace
over s plan lanes trace book is whole = subst (λ (v : View). IsWhole v.scenario v.trace) is whole

-- a turn takes nothing away from the trace
pub no_shorter : (s : Scenario) (lanes : ℕ) (before : List Event) (n : ℕ) (after : List Event) → OpensGroups s lanes before n after → length before ≤ length after
no_shorter s lanes before _ _ NoGroup = omega arith
no_shorter s lanes before _ _ (OneMore n middle members used opened opens) =
    let l = length-append middle (starts_of members used) in
    let m = no_shorter s lanes before n middle opened in
    omega (arith, l, m)
