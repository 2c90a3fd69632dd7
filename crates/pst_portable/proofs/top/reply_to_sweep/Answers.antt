use Rattle.std.proofs.Common.{[], map, string_bytes}
use Rattle.pst_words.specs.declared.command.Lines.TheVariants.{SweepAlone}
use Rattle.pst_portable.proofs.Done.{request_owed}
use Rattle.pst_portable.proofs.top.reply_to_sweep.Goals as goal

pub returns-clause-owed : goal.returns-clause-owed
returns-clause-owed g c =
    request_owed SweepAlone 1 (map string_bytes c.args.words.now) (g.S.Shelf.files c.args.shelf.now) (g.S.Shelf.faults c.args.shelf.now) (g.S.Shelf.faults c.request_of_words.new.shelf)
    [] c.in_ok-request.request c.reply_swept.result c.in_ok-request.ensures.is c.reply_swept.ensures
