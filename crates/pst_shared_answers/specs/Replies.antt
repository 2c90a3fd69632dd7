-- Replies to a scenario that was run on several lanes.
use Rattle.std.specs.Prelude.{ℕ, List, length, string_bytes, Result, Ok, Err}
use Rattle.pst_model.specs.ModelTree.{ModelTree}
use Rattle.pst_scen.specs.declared.event.Event.{Event}
use Rattle.pst_scen.specs.declared.scenario.Scenario.{Scenario}
use Rattle.pst_scen.specs.Plan.{Entries}
use Rattle.pst_trace_texts.specs.declared.last.Last.TheVariants as last
use Rattle.pst_trace_texts.specs.Texts.{trace_text}
use Rattle.pst_run_alone.specs.declared.answer.RunAnswer.TheVariants as ran
use Rattle.pst_run_alone.specs.declared.answer.ShownRun.{ShownRun}
use Rattle.pst_run_alone.specs.Lanes.{Lane, HaveMade}
use Rattle.pst_run_alone.specs.Shown as shown_run
use Rattle.pst_outcome.specs.declared.reply.Reply.{Reply}
use Rattle.pst_outcome.specs.declared.task.Work.{Work}
use Rattle.pst_outcome.specs.Models.{OfScenario}
use Rattle.pst_model_answers.specs.Replies.{Tells}

-- the reply to a run with this trace, which was whole
abbrev pub TellsWhole : List (List ℕ) → ModelTree → Scenario → List Event → Reply → Type 0
TellsWhole names m s trace reply = (shown : ShownRun) × shown_run.Says (ran.Done (length s.actions)) (trace_text names m s trace last.Done) shown × Tells shown reply

-- the reply to the scenario on lanes that tell that; where memory ran out, calls may have been made
abbrev pub RepliesOn : List (List ℕ) → ModelTree → Scenario → Entries → List ℕ → List Lane → Work → {E : Type 0} → Result Reply E → Type 0
RepliesOn names m s plan trace told done (Ok reply) = OfScenario names m s plan trace told done reply.answer (string_bytes reply.text)
RepliesOn names m s plan trace told done (Err e) = HaveMade told
