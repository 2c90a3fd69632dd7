use Rattle.std.proofs.Common.{string_bytes, refl, sym, subst}
use Rattle.std.specs.Prelude.{IfOk, min}
use Rattle.pst_run_alone.specs.Lanes.{lanes_told}
use Rattle.pst_words.specs.declared.command.Lines.TheVariants.{All}
use Rattle.pst_portable.specs.declared.request.Request.{Request}
use Rattle.pst_portable.specs.Requests.{IsServable, IsAnswered}
use Rattle.pst_portable.proofs.Done.{none_called}
use Rattle.pst_portable.proofs.asked.reply_on_lanes.Goals as goal

pub answer_on_lanes-requires-clause-ready : goal.answer_on_lanes-requires-clause-ready
answer_on_lanes-requires-clause-ready g c = λ names lives. subst (IsServable All (min c.args.lanes.now.len 16)) c.in-Asked.is c.requires.servable

pub returns-in-Answered-clause-done : goal.returns-in-Answered-clause-done
returns-in-Answered-clause-done g c =
    let told = lanes_told g.T.Target.calls g.T.Target.faults c.args.lanes.now.items c.args.lanes.now.items in
    subst (λ (r : Request). IsAnswered r told c.in-Answered.reply.answer (string_bytes c.in-Answered.reply.text)) (sym c.in-Answered.is)
    (none_called g.T.Target.calls g.T.Target.faults c.args.lanes.now.items, refl, refl)

pub returns-in-Asked-clause-done : goal.returns-in-Asked-clause-done
returns-in-Asked-clause-done g c =
    let told = lanes_told g.T.Target.calls g.T.Target.faults c.args.lanes.now.items c.answer_on_lanes.new.lanes.items in
    subst (λ (r : Request). IfOk c.answer_on_lanes.result (λ reply. IsAnswered r told reply.answer (string_bytes reply.text))) (sym c.in-Asked.is) c.answer_on_lanes.ensures.done

pub returns-in-Asked-clause-memory : goal.returns-in-Asked-clause-memory
returns-in-Asked-clause-memory g c = c.answer_on_lanes.ensures.memory
