use Rattle.std.proofs.Common.{[], map, refl}
use Rattle.std.specs.Prelude.{string_bytes}
use Rattle.std.proofs.lemmas.List.Elements.{All-nil}
use Rattle.pst_words.specs.declared.command.Lines.TheVariants.{SweepAlone}
use Rattle.pst_run_alone.specs.Lanes.{HasMade}
use Rattle.pst_outcome.specs.Delivered.{writing}
use Rattle.pst_portable.proofs.Said.{answered}
use Rattle.pst_portable.proofs.top.portable_sweep.Goals as goal

pub returns-in-Ok-clause-answer : goal.returns-in-Ok-clause-answer
returns-in-Ok-clause-answer g c =
    answered SweepAlone 1 (map string_bytes c.args.words.now) (g.S.Shelf.files c.args.shelf.now) (g.S.Shelf.faults c.args.shelf.now) (g.S.Shelf.faults c.reply_to_sweep.new.shelf) []
    (writing (g.K.Sink.written c.args.sink.now) (g.K.Sink.written c.deliver.new.sink) (g.K.Sink.faults c.args.sink.now) (g.K.Sink.faults c.deliver.new.sink))
    c.in-Ok.reply c.deliver.result c.in-Ok.ensures.owed c.deliver.ensures

pub returns-in-Err-clause-answer : goal.returns-in-Err-clause-answer
returns-in-Err-clause-answer g c = record { leaves = record { written = refl; count = refl }; made = All-nil HasMade }
