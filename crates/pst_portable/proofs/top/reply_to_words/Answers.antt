use Rattle.std.proofs.Common.{[], ◌∷◌, map, string_bytes, refl}
use Rattle.pst_words.specs.declared.command.Lines.TheVariants.{WithoutSweep}
use Rattle.pst_run_alone.specs.Lanes.{lane, HasMade}
use Rattle.pst_shared_answers.proofs.PassedOn.{none_made}
use Rattle.pst_portable.proofs.Done.{on_memory, request_owed}
use Rattle.pst_portable.proofs.top.reply_to_words.Goals as goal

pub returns-clause-owed : goal.returns-clause-owed
returns-clause-owed g c =
    request_owed WithoutSweep 1 (map string_bytes c.args.words.now) (g.S.Shelf.files c.args.shelf.now) (g.S.Shelf.faults c.args.shelf.now) (g.S.Shelf.faults c.request_of_words.new.shelf)
    (lane (g.T.Target.calls c.args.lane.now) (g.T.Target.calls c.reply_alone.new.lane) (g.T.Target.faults c.args.lane.now) (g.T.Target.faults c.reply_alone.new.lane) ∷ [])
    c.in_ok-request.request c.reply_alone.result c.in_ok-request.ensures.is c.reply_alone.ensures.done

pub returns-in_err-request-clause-memory : goal.returns-in_err-request-clause-memory
returns-in_err-request-clause-memory g c =
    on_memory (HasMade (lane (g.T.Target.calls c.args.lane.now) (g.T.Target.calls c.args.lane.now) (g.T.Target.faults c.args.lane.now) (g.T.Target.faults c.args.lane.now))) c.from_residual.result
    (none_made (lane (g.T.Target.calls c.args.lane.now) (g.T.Target.calls c.args.lane.now) (g.T.Target.faults c.args.lane.now) (g.T.Target.faults c.args.lane.now)) (record { calls = refl; count = refl }))
