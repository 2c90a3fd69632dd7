use Rattle.std.proofs.Common.{◌+◌, ℤ, List, Err, ap, subst, ◌∙◌, rules, SFits, w64}
use Rattle.std.proofs.lemmas.Int.{to_z-of_z}
use Rattle.pst_target.specs.declared.target.CallEnd.{CallEnd as End}
use Rattle.pst_target.specs.Calls.{with_call}
use Rattle.pst_target.specs.CallEnd.{CountsFault}
use Rattle.pst_body.proofs.Asking.{gave_answer, gave_fault, gave_nothing}
use Rattle.pst_body.proofs.call.ask.Goals as goal

pub returns-in-Ok : goal.returns-in-Ok
returns-in-Ok g c =
    let fits : SFits w64 c.in-Ok.answer = search rules in
    rw to_z-of_z (gave_answer c.args.function c.args.memory.now c.count_call.new.self c.in-Ok.answer (g.T.Target.calls c.args.lane.now) (g.T.Target.calls c.call.new.self) (g.T.Target.faults c.args.lane.now) (g.T.Target.faults c.call.new.self) c.count_call.ensures
    (c.in-Ok.ensures.answered ∙ ap (λ (l : List ℤ). with_call (g.T.Target.calls c.args.lane.now) c.args.function l c.in-Ok.answer) c.arguments.ensures) (c.in-Ok.ensures.count))

pub returns-in-Err-Failed : goal.returns-in-Err-Failed
returns-in-Err-Failed g c =
    gave_fault c.args.function c.args.memory.now _ (g.T.Target.calls c.args.lane.now) (g.T.Target.calls c.call.new.self) (g.T.Target.faults c.args.lane.now) (g.T.Target.faults c.call.new.self) (ap (λ n. n + 1) c.calls-call.ensures.value) c.in-Err-Failed.ensures.unanswered
    (subst (λ (e : End). CountsFault {T = ℤ} (Err e) (g.T.Target.faults c.args.lane.now) (g.T.Target.faults c.call.new.self)) c.in-Err-Failed.field-0-is c.in-Err-Failed.ensures.count)

pub returns-in-Err-NoMemory : goal.returns-in-Err-NoMemory
returns-in-Err-NoMemory g c =
    gave_nothing c.args.function c.args.memory.now (g.T.Target.calls c.args.lane.now) (g.T.Target.calls c.call.new.self) (g.T.Target.faults c.args.lane.now) (g.T.Target.faults c.call.new.self) c.in-Err-NoMemory.ensures.unanswered
    (subst (λ (e : End). CountsFault {T = ℤ} (Err e) (g.T.Target.faults c.args.lane.now) (g.T.Target.faults c.call.new.self)) c.in-Err-NoMemory.field-0-is c.in-Err-NoMemory.ensures.count)
