-- Laws of the first legal scenario and of bodies.
use Rattle.std.specs.Prelude.{◌≡◌, ℕ, List, [], ◌++◌, Some}
use Rattle.pst_target.specs.declared.call.Call.{Call}
use Rattle.pst_model.specs.ModelTree.{ModelTree}
use Rattle.pst_scen.specs.declared.scenario.Scenario.{Scenario}
use Rattle.pst_legal.specs.First.{IsFirst}
use Rattle.pst_legal.specs.Body.{BodyRun, Ended, Trap, Wants, body_run}

-- A model, a root and a seed have at most one first legal scenario.
abbrev pub FirstIsOne : Type 0
FirstIsOne = (m : ModelTree) (root seed infer : ℕ) (s t : Scenario) → IsFirst m root seed infer s → IsFirst m root seed infer t → s ≡ t

-- the body has ended or trapped
abbrev pub IsOver : BodyRun → Type 0
IsOver Ended = Unit {0}
IsOver (Trap kind) = Unit {0}
IsOver (Wants function arguments) = ⊥

-- No list of answered calls at which a body has ended or trapped begins a longer one that the body makes.
abbrev pub BodiesEndOnce : Type 0
BodiesEndOnce =
    (m : ModelTree) (s : Scenario) (a : ℕ) (calls more : List Call) (run other : BodyRun)
    → body_run m s a calls ≡ Some run → IsOver run → body_run m s a (calls ++ more) ≡ Some other → more ≡ []
