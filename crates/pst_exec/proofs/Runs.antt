-- Runs of bodies, one after another.
use Rattle.std.proofs.Common.{◌≡◌, ℕ, List, [], ◌∷◌, ◌++◌, refl, ap, sym, ◌∙◌, append_assoc, append-nil}
use Rattle.std.specs.Prelude.{Option, None, Some}
use Rattle.pst_target.specs.declared.call.Call.{Call as Answered}
use Rattle.pst_model.specs.ModelTree.{ModelTree}
use Rattle.pst_scen.specs.declared.scenario.Scenario.{Scenario}
use Rattle.pst_legal.specs.Body.{Ended, body_run}
use Rattle.pst_legal.specs.Runs.{AreRuns}
use Rattle.pst_body.specs.Doing.{with_calls}

-- one more body that ended
pub runs_more : (m : ModelTree) (s : Scenario) (acts : List ℕ) (a : ℕ) (made run : List Answered) → AreRuns m s acts made → body_run m s a run ≡ Some Ended → AreRuns m s (acts ++ a ∷ []) (made ++ run)
runs_more m s [] a made run runs ended = (run, [], ap (λ (l : List Answered). l ++ run) runs ∙ sym (append-nil run), ended, refl)
runs_more m s (b ∷ acts) a made run (first, rest, are, own, others) ended =
    (first, rest ++ run, ap (λ (l : List Answered). l ++ run) are ∙ append_assoc first rest run, own, runs_more m s acts a rest run others ended)

-- calls behind calls
pub calls_more : (before between after : Option (List Answered)) (made more : List Answered) → between ≡ with_calls before made → after ≡ with_calls between more → after ≡ with_calls before (made ++ more)
calls_more None between after made more first second = second ∙ ap (λ (o : Option (List Answered)). with_calls o more) first
calls_more (Some calls) between after made more first second =
    second ∙ ap (λ (o : Option (List Answered)). with_calls o more) first ∙ ap (λ (l : List Answered). Some l) (append_assoc calls made more)
