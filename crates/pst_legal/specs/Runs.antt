-- What the calls of a lane are: the bodies of actions, one after another.
use Rattle.std.specs.Prelude.{◌≡◌, ℕ, List, [], ◌∷◌, ◌++◌, Some}
use Rattle.pst_target.specs.declared.call.Call.{Call as Answered}
use Rattle.pst_model.specs.ModelTree.{ModelTree}
use Rattle.pst_scen.specs.declared.scenario.Scenario.{Scenario}
use Rattle.pst_legal.specs.Body.{BodyRun, Ended, body_run}

-- the calls are the whole runs of these actions' bodies, in this order
abbrev pub AreRuns : ModelTree → Scenario → List ℕ → List Answered → Type 0
AreRuns m s [] calls = calls ≡ []
AreRuns m s (a ∷ more) calls =
    (run : List Answered) × (rest : List Answered) × (calls ≡ run ++ rest) × (body_run m s a run ≡ Some Ended) × AreRuns m s more rest

-- The calls are the whole runs of these actions' bodies, and then those of one more body, which has come to that.
pub record AreRunsUpTo (m : ModelTree) (s : Scenario) (actions : List ℕ) (last : ℕ) (to : BodyRun) (calls : List Answered) : Type 0 where
  pub whole : List Answered
  pub part : List Answered
  pub are : calls ≡ whole ++ part
  pub runs : AreRuns m s actions whole
  pub comes_to : body_run m s last part ≡ Some to
