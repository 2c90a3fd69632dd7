use Rattle.std.proofs.Common.{[], ◌∷◌, string_bytes, refl, sym, subst}
use Rattle.std.specs.Prelude.{IfOk}
use Rattle.pst_run_alone.specs.Lanes.{lane}
use Rattle.pst_shared_answers.proofs.PassedOn.{one_uncalled}
use Rattle.pst_words.specs.declared.command.Lines.TheVariants.{WithoutSweep}
use Rattle.pst_portable.specs.declared.request.Request.{Request}
use Rattle.pst_portable.specs.Requests.{IsServable, IsAnswered}
use Rattle.pst_portable.proofs.asked.reply_alone.Goals as goal

pub answer_alone-requires : goal.answer_alone-requires
answer_alone-requires g c = subst (IsServable WithoutSweep 1) c.in-Asked.is c.requires

pub returns-in-Answered-clause-done : goal.returns-in-Answered-clause-done
returns-in-Answered-clause-done g c =
    let l = lane (g.T.Target.calls c.args.lane.now) (g.T.Target.calls c.args.lane.now) (g.T.Target.faults c.args.lane.now) (g.T.Target.faults c.args.lane.now) in
    subst (λ (r : Request). IsAnswered r (l ∷ []) c.in-Answered.reply.answer (string_bytes c.in-Answered.reply.text)) (sym c.in-Answered.is) (one_uncalled l (record { calls = refl; count = refl }), refl, refl)

pub returns-in-Asked-clause-done : goal.returns-in-Asked-clause-done
returns-in-Asked-clause-done g c =
    let l = lane (g.T.Target.calls c.args.lane.now) (g.T.Target.calls c.answer_alone.new.lane) (g.T.Target.faults c.args.lane.now) (g.T.Target.faults c.answer_alone.new.lane) in
    subst (λ (r : Request). IfOk c.answer_alone.result (λ reply. IsAnswered r (l ∷ []) reply.answer (string_bytes reply.text))) (sym c.in-Asked.is) c.answer_alone.ensures.done
