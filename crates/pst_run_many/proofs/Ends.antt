-- How a run ends, by how each lane stopped.
use Rattle.std.proofs.Common.{◌≡◌, ◌≢◌, ℕ, ◌+◌, ◌<◌, ◌≤◌, List, [], ◌∷◌, ◌++◌, length, Bool, true, false, refl, ap, sym, subst, ◌∙◌, arith, true≢false}
use Rattle.std.proofs.lemmas.List.{append_cancel_left}
use Rattle.std.specs.Prelude.{Option, None, Some, Ok, Err}
use Rattle.std.specs.Option.{option_to_list}
use Rattle.pst_base.specs.Fault.{HasRisen}
use Rattle.pst_target.specs.declared.call.Call.{Call as Answered}
use Rattle.pst_model.specs.ModelTree.{ModelTree}
use Rattle.pst_scen.specs.declared.event.Event.{Event}
use Rattle.pst_scen.specs.declared.scenario.Scenario.{Scenario}
use Rattle.pst_scen.specs.Core.{Core, commands_of}
use Rattle.pst_scen.specs.Trace.{IsWhole, IsLegalTrace, Prefix}
use Rattle.pst_legal.specs.Body.{BodyRun, Trap, Wants, body_run}
use Rattle.pst_book.specs.Books.{View}
use Rattle.pst_lanes.specs.Lanes.{starts_on, ends_on, IsRunning}
use Rattle.pst_lanes.proofs.Laned.{laned_trace}
use Rattle.pst_body.specs.declared.ending.BodyEnd.{BodyEnd}
use Rattle.pst_body.specs.declared.ending.BodyEnd.TheVariants as body
use Rattle.pst_body.specs.Ran.{Ran}
use Rattle.pst_exec.specs.Alone.{end_of}
use Rattle.pst_workers.specs.declared.worker.Broken.{Broken}
use Rattle.pst_workers.specs.Told.{Told, lane_at, LaneRan, LaneBroke}
use Rattle.pst_workers.proofs.Runs.{calls_more}
use Rattle.pst_run_many.specs.declared.stop.LaneStop.{LaneStop}
use Rattle.pst_run_many.specs.Many.{IsBookOn, RunsOn, LaneRanUpTo, LaneFailed, LaneTrapped, LaneStopped, HasRan, HasFailed, HasTrapped, RanWholeOn, StoppedOn, KeptCalls, RunsMany}
use Rattle.pst_run_many.specs.Stops.{is_out_of_memory, IsBehind, Allowed, HasCome, Came}

-- ---- a body that broke

abbrev broken_at : ℕ → BodyEnd → Broken
broken_at a end = record { action = a; end = end }

up_to : (m : ModelTree) (s : Scenario) (acts : List ℕ) (a : ℕ) (end : BodyEnd) (to : BodyRun) (before after : Told) → (b : LaneBroke m s acts (broken_at a end) before after) → body_run m s a b.broke.made ≡ Some to
    → (ran : LaneRanUpTo m s acts a to before after) × (ran.runs.part ≡ b.broke.made)
up_to m s acts a end to before after b comes = (
  record {
    made = b.ran.made ++ b.broke.made;
    calls = calls_more before.calls b.between.calls after.calls b.ran.made b.broke.made b.ran.calls b.broke.calls;
    runs = record { whole = b.ran.made; part = b.broke.made; are = refl; runs = b.ran.runs; comes_to = comes };
  },
  refl,
)

failed : (m : ModelTree) (s : Scenario) (acts : List ℕ) (a call : ℕ) (before after : Told) → LaneBroke m s acts (broken_at a (body.Fault call)) before after → LaneFailed m s acts a call before after
failed m s acts a call before after b =
    let wants = b.broke.are.0 in
    let up = up_to m s acts a (body.Fault call) (Wants wants.0 wants.1) before after b wants.2 in
    let number : call ≡ length b.broke.made + 1 = b.broke.are.1 in
    record {
      function = wants.0;
      arguments = wants.1;
      ran = up.0;
      number = number ∙ ap (λ (l : List Answered). length l + 1) (sym up.1);
      faults = subst (λ (n : ℕ). HasRisen n after.faults) b.ran.faults b.broke.faults;
    }

trapped : (m : ModelTree) (s : Scenario) (acts : List ℕ) (a kind : ℕ) (before after : Told) → LaneBroke m s acts (broken_at a (body.Trap kind)) before after → LaneTrapped m s acts a kind before after
trapped m s acts a kind before after b = record { ran = (up_to m s acts a (body.Trap kind) (Trap kind) before after b b.broke.are).0; faults = b.broke.faults ∙ b.ran.faults }

rises : (end : BodyEnd) (m : ModelTree) (s : Scenario) (acts : List ℕ) (a : ℕ) (before after : Told) → LaneBroke m s acts (broken_at a end) before after → before.faults ≤ after.faults
rises (body.Fault call) m s acts a before after b = let same = b.ran.faults in let rose = b.broke.faults.0 in omega (arith, same, rose)
rises (body.Trap kind) m s acts a before after b = let same = b.ran.faults in let still = b.broke.faults in omega (arith, same, still)
rises body.NoMemory m s acts a before after b = let same = b.ran.faults in let still = b.broke.faults in omega (arith, same, still)

-- ---- a lane

-- the calls that were made stay
kept : (m : ModelTree) (s : Scenario) (started ended : List ℕ) (before after : Told) (stop : Option Broken) → HasCome m s started ended stop before after → KeptCalls before after
kept m s started ended before after None ran = record { made = ran.made; calls = ran.calls; faults = let same = ran.faults in omega (arith, same) }
kept m s started ended before after (Some broken) (runs, b) = record {
  made = b.ran.made ++ b.broke.made;
  calls = calls_more before.calls b.between.calls after.calls b.ran.made b.broke.made b.ran.calls b.broke.calls;
  faults = rises broken.end m s ended broken.action before after b;
}

the_one : (o : Option ℕ) (a : ℕ) → option_to_list o ≡ a ∷ [] → o ≡ Some a
the_one None a e = absurd cc
the_one (Some b) a e = let same : b ≡ a = cc in ap (λ (x : ℕ). Some x) same

runs_on : (s : Scenario) (lanes : ℕ) (trace : List Event) (lane a : ℕ) → IsLegalTrace s lanes trace → starts_on lane trace ≡ ends_on lane trace ++ a ∷ [] → RunsOn trace lane a
runs_on s lanes trace lane a legal starts =
    let laned = (laned_trace s lanes trace legal).lanes lane in
    let own : laned.running ≡ Some a = the_one laned.running a (append_cancel_left (ends_on lane trace) (option_to_list laned.running) (a ∷ []) (sym laned.starts ∙ starts)) in
    record { starts = starts; running = subst (λ (o : Option ℕ). IsRunning trace lane o) own laned.runs }

stopped_by : (m : ModelTree) (s : Scenario) (lanes : ℕ) (trace : List Event) (lane a : ℕ) (end : BodyEnd) (before after : Told) → IsLegalTrace s lanes trace → is_out_of_memory end ≡ false
    → starts_on lane trace ≡ ends_on lane trace ++ a ∷ [] → LaneBroke m s (ends_on lane trace) (broken_at a end) before after → LaneStopped m s trace lane before after
stopped_by m s lanes trace lane a (body.Fault call) before after legal no_want starts b = HasFailed a call (runs_on s lanes trace lane a legal starts) (failed m s (ends_on lane trace) a call before after b)
stopped_by m s lanes trace lane a (body.Trap kind) before after legal no_want starts b = HasTrapped a kind (runs_on s lanes trace lane a legal starts) (trapped m s (ends_on lane trace) a kind before after b)
stopped_by m s lanes trace lane a body.NoMemory before after legal no_want starts b = absurd (true≢false no_want)

stopped : (m : ModelTree) (s : Scenario) (lanes : ℕ) (trace : List Event) (first lane : ℕ) (stop : Option Broken) (before after : Told) → IsLegalTrace s lanes trace → IsBehind first lane stop
    → HasCome m s (starts_on lane trace) (ends_on lane trace) stop before after → LaneStopped m s trace lane before after
stopped m s lanes trace first lane None before after legal behind come = HasRan come
stopped m s lanes trace first lane (Some broken) before after legal behind come = stopped_by m s lanes trace lane broken.action broken.end before after legal behind.1 come.0 come.1

below_ran : (m : ModelTree) (s : Scenario) (started ended : List ℕ) (first lane : ℕ) (stop : Option Broken) (before after : Told) → lane < first → IsBehind first lane stop
    → HasCome m s started ended stop before after → LaneRan m s ended before after
below_ran m s started ended first lane None before after low behind come = come
below_ran m s started ended first lane (Some broken) before after low behind come = let high = behind.0 in absurd (omega (arith, low, high))

pub came_whole : (m : ModelTree) (s : Scenario) (lane : ℕ) (started ended : List ℕ) (before after : Told) → Came m s None lane started ended before after → LaneRan m s ended before after
came_whole m s lane started ended before after came = subst (λ (o : Option Broken). HasCome m s started ended o before after) came.allowed came.come

-- the lane that is told
came_told : (m : ModelTree) (s : Scenario) (first : LaneStop) (started ended : List ℕ) (before after : Told) → Came m s (Some first) first.lane started ended before after
    → HasCome m s started ended (Some first.broken) before after
came_told m s first started ended before after came = subst (λ (o : Option Broken). HasCome m s started ended o before after) (came.allowed.0 refl) came.come

-- ---- a run

abbrev pub AllCame : ModelTree → Scenario → ℕ → Option LaneStop → List Event → List Told → List Told → Type 0
AllCame m s count first trace before after = (k : ℕ) → k < count → Came m s first k (starts_on k trace) (ends_on k trace) (lane_at before k) (lane_at after k)

pub book_on : (s : Scenario) (book : View) (trace : List Event) → book.scenario ≡ s → trace ≡ book.trace → Core book.scenario book.lanes (commands_of trace) trace → Prefix book.scenario book.lanes trace
    → IsBookOn s book.plan book.lanes book
book_on s book trace of is core prefix = record {
  scenario = of;
  planned = refl;
  lanes = refl;
  core = subst (λ (t : Scenario). Core t book.lanes (commands_of book.trace) book.trace) of (subst (λ (es : List Event). Core book.scenario book.lanes (commands_of es) es) is core);
  prefix = subst (λ (t : Scenario). Prefix t book.lanes book.trace) of (subst (λ (es : List Event). Prefix book.scenario book.lanes es) is prefix);
}

pub ended_whole : (m : ModelTree) (s : Scenario) (book : View) (before after : List Told) → IsBookOn s book.plan book.lanes book → IsWhole s book.trace
    → ((k : ℕ) → k < book.lanes → starts_on k book.trace ≡ ends_on k book.trace) → AllCame m s book.lanes None book.trace before after → RunsMany m s book.plan book.lanes before after (Ok book)
ended_whole m s book before after on whole idle came = record {
  is_of = on;
  whole = whole;
  lanes = λ k h. subst (λ (acts : List ℕ). LaneRan m s acts (lane_at before k) (lane_at after k)) (sym (idle k h)) (came_whole m s k (starts_on k book.trace) (ends_on k book.trace) (lane_at before k) (lane_at after k) (came k h));
}

stopped_on : (m : ModelTree) (s : Scenario) (book : View) (before after : List Told) (first : LaneStop) → IsBookOn s book.plan book.lanes book → IsLegalTrace s book.lanes book.trace → is_out_of_memory first.broken.end ≡ false
    → first.lane < book.lanes → AllCame m s book.lanes (Some first) book.trace before after → StoppedOn m s book.plan book.lanes before after first.lane first.broken.action book
stopped_on m s book before after first on legal memory inside came =
    let t = book.trace in
    let own = came_told m s first (starts_on first.lane t) (ends_on first.lane t) (lane_at before first.lane) (lane_at after first.lane) (came first.lane inside) in
    record {
      is_of = on;
      inside = inside;
      runs = runs_on s book.lanes t first.lane first.broken.action legal own.0;
      below = λ k low. let c = came k (omega (arith, low, inside)) in
          below_ran m s (starts_on k t) (ends_on k t) first.lane k c.stop (lane_at before k) (lane_at after k) low (c.allowed.1 memory) c.come;
      lanes = λ k h. let c = came k h in stopped m s book.lanes t first.lane k c.stop (lane_at before k) (lane_at after k) legal (c.allowed.1 memory) c.come;
    }

abbrev at_lane : ℕ → ℕ → BodyEnd → LaneStop
at_lane lane a end = record { lane = lane; broken = broken_at a end }

ended_by : (m : ModelTree) (s : Scenario) (book : View) (before after : List Told) (lane a : ℕ) (end : BodyEnd) → IsBookOn s book.plan book.lanes book → IsLegalTrace s book.lanes book.trace
    → lane < book.lanes → AllCame m s book.lanes (Some (at_lane lane a end)) book.trace before after → RunsMany m s book.plan book.lanes before after (Err (end_of book lane a end))
ended_by m s book before after lane a (body.Fault call) on legal inside came =
    let first = at_lane lane a (body.Fault call) in
    let own = came_told m s first (starts_on lane book.trace) (ends_on lane book.trace) (lane_at before lane) (lane_at after lane) (came lane inside) in
    (stopped_on m s book before after first on legal refl inside came, failed m s (ends_on lane book.trace) a call (lane_at before lane) (lane_at after lane) own.1)
ended_by m s book before after lane a (body.Trap kind) on legal inside came =
    let first = at_lane lane a (body.Trap kind) in
    let own = came_told m s first (starts_on lane book.trace) (ends_on lane book.trace) (lane_at before lane) (lane_at after lane) (came lane inside) in
    (stopped_on m s book before after first on legal refl inside came, trapped m s (ends_on lane book.trace) a kind (lane_at before lane) (lane_at after lane) own.1)
ended_by m s book before after lane a body.NoMemory on legal inside came = λ k h. let c = came k h in kept m s (starts_on k book.trace) (ends_on k book.trace) (lane_at before k) (lane_at after k) c.stop c.come

pub ended_stopped : (m : ModelTree) (s : Scenario) (book : View) (before after : List Told) (first : LaneStop) → IsBookOn s book.plan book.lanes book → IsLegalTrace s book.lanes book.trace
    → first.lane < book.lanes → AllCame m s book.lanes (Some first) book.trace before after → RunsMany m s book.plan book.lanes before after (Err (end_of book first.lane first.broken.action first.broken.end))
ended_stopped m s book before after first on legal inside came = ended_by m s book before after first.lane first.broken.action first.broken.end on legal inside came
