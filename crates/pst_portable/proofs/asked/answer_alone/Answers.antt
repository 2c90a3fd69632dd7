use Rattle.std.proofs.Common.{◌≤◌, List, ℕ, [], ◌∷◌, length, string_bytes, sym, subst}
use Rattle.std.specs.Prelude.{IfOk}
use Rattle.pst_model.specs.ModelView.{view_model}
use Rattle.pst_run_alone.specs.Lanes.{lane}
use Rattle.pst_files_read.specs.Limits.{most_trace}
use Rattle.pst_outcome.specs.Models.{OfModel}
use Rattle.pst_portable.proofs.Done.{few_lines}
use Rattle.pst_portable.proofs.asked.answer_alone.Goals as goal

pub answer_model-requires-clause-sound : goal.answer_model-requires-clause-sound
answer_model-requires-clause-sound g c = c.requires.sound

pub answer_model-requires-clause-concrete : goal.answer_model-requires-clause-concrete
answer_model-requires-clause-concrete g c = c.requires.concrete

pub answer_model-requires-clause-few : goal.answer_model-requires-clause-few
answer_model-requires-clause-few g c = few_lines c.trace_of-trace.result.now (subst (λ (t : List ℕ). length t ≤ most_trace) (sym c.trace_of-trace.ensures) c.requires.small)

pub answer_model-requires-clause-alone : goal.answer_model-requires-clause-alone
answer_model-requires-clause-alone g c = c.requires.fits

pub answer_model-requires-clause-unswept : goal.answer_model-requires-clause-unswept
answer_model-requires-clause-unswept g c = c.requires.asked

pub returns-clause-done : goal.returns-clause-done
returns-clause-done g c =
    let l = lane (g.T.Target.calls c.args.lane.now) (g.T.Target.calls c.answer_model.new.lane) (g.T.Target.faults c.args.lane.now) (g.T.Target.faults c.answer_model.new.lane) in
    let q = c.args.question.now in
    subst (λ (t : List ℕ). IfOk c.answer_model.result (λ reply. OfModel q.names (view_model q.model) q.root q.task t (l ∷ []) reply.answer (string_bytes reply.text))) c.trace_of-trace.ensures c.answer_model.ensures.owed
