-- What bodies that run one after another on a lane make of it.
use Rattle.std.proofs.Common.{◌≡◌, ℕ, List, [], ◌∷◌, ◌++◌, refl, ap, sym, ◌∙◌, append_assoc, append-nil}
use Rattle.std.specs.Prelude.{Option, None, Some, Ok}
use Rattle.pst_target.specs.declared.call.Call.{Call as Answered}
use Rattle.pst_model.specs.ModelTree.{ModelTree}
use Rattle.pst_scen.specs.declared.scenario.Scenario.{Scenario}
use Rattle.pst_legal.specs.Body.{Ended, body_run}
use Rattle.pst_legal.specs.Runs.{AreRuns}
use Rattle.pst_body.specs.Doing.{with_calls}
use Rattle.pst_body.specs.Ran.{Ran}
use Rattle.pst_workers.specs.Told.{Told, LaneRan}

-- one more body that ended
pub runs_more : (m : ModelTree) (s : Scenario) (acts : List ℕ) (a : ℕ) (made run : List Answered) → AreRuns m s acts made → body_run m s a run ≡ Some Ended → AreRuns m s (acts ++ a ∷ []) (made ++ run)
runs_more m s [] a made run runs ended = (run, [], ap (λ (l : List Answered). l ++ run) runs ∙ sym (append-nil run), ended, refl)
runs_more m s (b ∷ acts) a made run (first, rest, are, own, others) ended =
    (first, rest ++ run, ap (λ (l : List Answered). l ++ run) are ∙ append_assoc first rest run, own, runs_more m s acts a rest run others ended)

-- calls behind calls
pub calls_more : (before between after : Option (List Answered)) (made more : List Answered) → between ≡ with_calls before made → after ≡ with_calls between more → after ≡ with_calls before (made ++ more)
calls_more None between after made more first second = second ∙ ap (λ (o : Option (List Answered)). with_calls o more) first
calls_more (Some calls) between after made more first second =
    second ∙ ap (λ (o : Option (List Answered)). with_calls o more) first ∙ ap (λ (l : List Answered). Some l) (append_assoc calls made more)

pub no_calls : (o : Option (List Answered)) → o ≡ with_calls o []
no_calls None = refl
no_calls (Some l) = ap (λ (k : List Answered). Some k) (sym (append-nil l))

-- no action ran
pub lane_none : (m : ModelTree) (s : Scenario) (t : Told) → LaneRan m s [] t t
lane_none m s t = record { made = []; calls = no_calls t.calls; runs = refl; faults = refl }

-- one action more
pub lane_more : (m : ModelTree) (s : Scenario) (acts : List ℕ) (a : ℕ) (before between after : Told) → LaneRan m s acts before between
    → Ran {A = Unit {0}} (body_run m s a) between.calls after.calls between.faults after.faults (Ok tt) → LaneRan m s (acts ++ a ∷ []) before after
lane_more m s acts a before between after ran one = record {
  made = ran.made ++ one.made;
  calls = calls_more before.calls between.calls after.calls ran.made one.made ran.calls one.calls;
  runs = runs_more m s acts a ran.made one.made ran.runs one.are;
  faults = one.faults ∙ ran.faults;
}
