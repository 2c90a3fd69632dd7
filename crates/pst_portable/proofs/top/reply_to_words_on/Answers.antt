use Rattle.std.proofs.Common.{◌∙◌, ℕ, map, min, string_bytes, ap, subst}
use Rattle.std.specs.Prelude.{IfOk}
use Rattle.pst_words.specs.declared.command.Lines.TheVariants.{All}
use Rattle.pst_run_alone.specs.Lanes.{HaveMade, lanes_told}
use Rattle.pst_shared_answers.proofs.PassedOn.{all_made}
use Rattle.pst_outcome.specs.Outcome.{IsOwed}
use Rattle.pst_portable.proofs.Done.{none_called, on_memory, request_owed}
use Rattle.pst_portable.proofs.top.reply_to_words_on.Goals as goal

pub returns-in_err-request-clause-memory : goal.returns-in_err-request-clause-memory
returns-in_err-request-clause-memory g c =
    let told = lanes_told g.T.Target.calls g.T.Target.faults c.args.lanes.now.items c.args.lanes.now.items in
    on_memory (HaveMade told) c.from_residual.result (all_made told (none_called g.T.Target.calls g.T.Target.faults c.args.lanes.now.items))

pub returns-clause-owed : goal.returns-clause-owed
returns-clause-owed g c =
    let told = lanes_told g.T.Target.calls g.T.Target.faults c.args.lanes.now.items c.reply_on_lanes.new.lanes.items in
    subst (λ (n : ℕ). IfOk c.reply_on_lanes.result (λ reply. IsOwed All n (map string_bytes c.args.words.now) (g.S.Shelf.files c.args.shelf.now) (g.S.Shelf.faults c.args.shelf.now) (g.S.Shelf.faults c.request_of_words.new.shelf) told reply.answer (string_bytes reply.text)))
    (c.most_lanes-have.ensures ∙ ap (λ (n : ℕ). min n 16) c.len.ensures)
    (request_owed All c.most_lanes-have.result (map string_bytes c.args.words.now) (g.S.Shelf.files c.args.shelf.now) (g.S.Shelf.faults c.args.shelf.now) (g.S.Shelf.faults c.request_of_words.new.shelf)
    told c.in_ok-request.request c.reply_on_lanes.result c.in_ok-request.ensures.is c.reply_on_lanes.ensures.done)

pub returns-clause-memory : goal.returns-clause-memory
returns-clause-memory g c = c.reply_on_lanes.ensures.memory
