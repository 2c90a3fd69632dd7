-- A check takes what a run on several lanes prints.
use Rattle.std.proofs.Common.{◌<◌, ◌≤◌, ℕ, List, length, arith}
use Rattle.std.specs.Prelude.{None, get_or}
use Rattle.pst_model.specs.ModelTree.{ModelTree}
use Rattle.pst_scen.specs.declared.event.Event.{Event}
use Rattle.pst_scen.specs.declared.scenario.Scenario.{Scenario}
use Rattle.pst_legal.specs.Body.{Trap, Wants}
use Rattle.pst_lanes.specs.Lanes.{ends_on}
use Rattle.pst_trace_texts.specs.declared.last.Last.TheVariants as last
use Rattle.pst_trace_texts.specs.Texts.{trace_text}
use Rattle.pst_trace_verdict.specs.Events.{RunsOn}
use Rattle.pst_run_alone.specs.Lanes.{Lane, lane}
use Rattle.pst_scenario_answers.specs.declared.check.CheckAnswer.{CheckAnswer}
use Rattle.pst_scenario_answers.specs.Checked.{IsChecked}
use Rattle.pst_body_ends.specs.Ends.{BodiesAreShort}
use Rattle.pst_printed_traces.specs.Printed.{IsPrintable, EndsAt, WholeTracesAreTaken, BegunTracesAreTaken}
use Rattle.pst_printed_runs.specs.Taken.{IsTaken}
use Rattle.pst_outcome.specs.SharedRuns.{Break, Failed, Trapped, HasBroken, AtCall, InTrap, HaveStopped, IsTooWide, EndsWhole, EndsEarly, answer_of_break, last_of_break}
use Rattle.pst_printed_answers.specs.Taken.{SharedRunsAreTaken}

-- a body that broke off made few calls, or trapped by one of the kinds
ends_at : BodiesAreShort → (m : ModelTree) (s : Scenario) (count : ℕ) (trace : List Event) (lanes : List Lane) (number action : ℕ) (break : Break) → HaveStopped m s count trace lanes number action break
    → EndsAt trace (last_of_break number action break)
ends_at short m s count trace lanes number action break stopped = by break stopped.runs.running (stopped.here (lane None None 0 0))
  where
    by : (b : Break) → RunsOn trace action number → HasBroken m s (ends_on number trace) action (get_or lanes number (lane None None 0 0)) b → EndsAt trace (last_of_break number action b)
    by _ runs (AtCall function arguments call r number_is risen) =
        let few : length r.runs.part < 1000 = short m s action r.runs.part (Wants function arguments) r.runs.comes_to in
        (runs, omega (arith, few, number_is))
    by _ runs (InTrap kind r same) = let few = short m s action r.runs.part (Trap kind) r.runs.comes_to in (runs, few.1, few.2)

early : BegunTracesAreTaken → BodiesAreShort → (names : List (List ℕ)) (m : ModelTree) (s : Scenario) (count : ℕ) (lanes : List Lane) (trace : List Event) (number action : ℕ) (break : Break) (given : CheckAnswer)
    → IsPrintable names s → count ≤ 16 → HaveStopped m s count trace lanes number action break → IsChecked names m s (trace_text names m s trace (last_of_break number action break)) given
    → IsTaken (answer_of_break number action break) given
early begun short names m s count lanes trace number action (Failed call) given own few stopped is =
    begun names m s count trace (last.Fault number action call) given own few stopped.prefix (ends_at short m s count trace lanes number action (Failed call) stopped) is
early begun short names m s count lanes trace number action (Trapped kind) given own few stopped is =
    begun names m s count trace (last.Trap number action kind) given own few stopped.prefix (ends_at short m s count trace lanes number action (Trapped kind) stopped) is

pub shared_taken : WholeTracesAreTaken → BegunTracesAreTaken → BodiesAreShort → SharedRunsAreTaken
shared_taken whole begun short names m s plan count lanes _ _ given own few (IsTooWide wide calm) is = tt
shared_taken whole begun short names m s plan count lanes _ _ given own few (EndsWhole trace fits ran) is = whole names m s count trace given own few ran.legal ran.whole is
shared_taken whole begun short names m s plan count lanes _ _ given own few (EndsEarly trace number action break fits stopped) is =
    early begun short names m s count lanes trace number action break given own few stopped is
