use Rattle.std.proofs.Common.{[], string_bytes, refl, sym, subst}
use Rattle.std.specs.Prelude.{IfOk}
use Rattle.std.proofs.lemmas.List.Elements.{All-nil}
use Rattle.pst_run_alone.specs.Lanes.{IsUncalled}
use Rattle.pst_words.specs.declared.command.Lines.TheVariants.{SweepAlone}
use Rattle.pst_portable.specs.declared.request.Request.{Request}
use Rattle.pst_portable.specs.Requests.{IsServable, IsAnswered}
use Rattle.pst_portable.proofs.asked.reply_swept.Goals as goal

pub answer_swept-requires-clause-ready : goal.answer_swept-requires-clause-ready
answer_swept-requires-clause-ready g c = λ names lives. subst (IsServable SweepAlone 1) c.in-Asked.is c.requires.servable

pub returns-in-Answered : goal.returns-in-Answered
returns-in-Answered g c =
    subst (λ (r : Request). IsAnswered r [] c.in-Answered.reply.answer (string_bytes c.in-Answered.reply.text)) (sym c.in-Answered.is) (All-nil IsUncalled, refl, refl)

pub returns-in-Asked : goal.returns-in-Asked
returns-in-Asked g c =
    subst (λ (r : Request). IfOk c.answer_swept.result (λ reply. IsAnswered r [] reply.answer (string_bytes reply.text))) (sym c.in-Asked.is) (c.answer_swept.ensures [] (All-nil IsUncalled))
