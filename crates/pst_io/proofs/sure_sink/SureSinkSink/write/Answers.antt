use Rattle.std.proofs.Common.{◌≡◌, ◌++◌, take, arith}
use Rattle.std.proofs.lemmas.Grind.{common_steps}
use Rattle.std.proofs.lemmas.List.{take_min}
use Rattle.pst_io.proofs.sure_sink.SureSinkSink.write.Goals as goal

pub returns-clause-sink : goal.returns-clause-sink
returns-clause-sink c =
    let bytes = c.self.inside.bytes in
    let piece = c.args.piece.now in
    let all : c.extend_from_slice.new.self.items ≡ bytes.items ++ take c.min-n.result piece = grind (arith, common_steps) in
    let taken : take c.min-n.result piece ≡ take c.self.inside.most piece = rw c.min-n.ensures (take_min c.self.inside.most piece) in
    rw (← c.self.view_is, all, taken)
