-- Which replies to a model are right.
use Rattle.std.proofs.Common.{◌≡◌, ℕ, List, [], ◌∷◌}
use Rattle.std.specs.Prelude.{Result, Ok, Err, IfOk, string_bytes}
use Rattle.pst_base.specs.declared.memory.NoMemory.{NoMemory}
use Rattle.pst_model.specs.ModelTree.{ModelTree}
use Rattle.pst_scen.specs.declared.scenario.Scenario.{Scenario}
use Rattle.pst_scen.specs.Plan.{Entries}
use Rattle.pst_run_alone.specs.Lanes.{Lane, AreUncalled}
use Rattle.pst_search.specs.declared.first.SearchEnd.{SearchEnd}
use Rattle.pst_search.specs.declared.first.SearchEnd.TheVariants as search_end
use Rattle.pst_search.specs.Searches.{Searches}
use Rattle.pst_outcome.specs.declared.answer.Answer.TheVariants.{NoScenario, Budget}
use Rattle.pst_outcome.specs.declared.reply.Reply.{Reply}
use Rattle.pst_outcome.specs.declared.task.Task.{Task}
use Rattle.pst_outcome.specs.declared.task.Work.{Work}
use Rattle.pst_outcome.specs.declared.task.Work.TheVariants as work
use Rattle.pst_outcome.specs.Tasks.{IsSweep}
use Rattle.pst_outcome.specs.Models.{IsSought, OfModel, HasNone, IsSpent, IsFound}
use Rattle.pst_model_answers.specs.Replies.{Says, SaysEnd, Replies}
use Rattle.pst_model_answers.proofs.Runs.{said}

module _ (names : List (List ℕ)) (m : ModelTree) (root : ℕ) (task : Task) (trace : List ℕ) (lanes : List Lane) where
  pub end_owed : (end : SearchEnd) (r : Result Reply NoMemory) → IsSought task.work → AreUncalled lanes → Searches m root task.seed task.infer task.budget (Err end) → IfOk r (SaysEnd task.infer end)
      → IfOk r (λ reply. OfModel names m root task trace lanes reply.answer (string_bytes reply.text))
  end_owed search_end.NoScenario (Ok reply) sought none nothing says = said (OfModel names m root task trace lanes) NoScenario _ reply (HasNone sought none nothing) says
  end_owed (search_end.Budget level) (Ok reply) sought none (few, spent) says =
      said (OfModel names m root task trace lanes) (Budget level) _ reply (IsSpent level sought none few spent) says
  end_owed search_end.NoMemory (Ok reply) sought none nothing says = absurd says
  end_owed end (Err e) sought none ends says = tt

-- a task that doesn't ask for a sweep asks for a scenario
pub sought : (w : Work) → (IsSweep w → ⊥) → IsSought w
sought (work.Run lanes) unswept = tt
sought work.Solve unswept = tt
sought work.Check unswept = tt
sought (work.Place space) unswept = tt
sought (work.Static over) unswept = tt
sought (work.Generate size lanes) unswept = tt
sought (work.Sweep first count) unswept = unswept tt

-- what is done with the first legal scenario on one lane
pub found_owed : (names : List (List ℕ)) (m : ModelTree) (root : ℕ) (task : Task) (trace : List ℕ) (l : Lane) (s : Scenario) (plan : Entries) (r : Result Reply NoMemory)
    → Searches m root task.seed task.infer task.budget (Ok (s, plan)) → Replies names m s plan trace l task.work r → IfOk r (λ reply. OfModel names m root task trace (l ∷ []) reply.answer (string_bytes reply.text))
found_owed names m root task trace l s plan (Ok reply) (first, planned) replies = IsFound s plan reply.answer (string_bytes reply.text) first planned replies
found_owed names m root task trace l s plan (Err e) found replies = tt
