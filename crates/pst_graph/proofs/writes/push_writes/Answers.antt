use Rattle.std.proofs.Common.{length, refl}
use Rattle.std.proofs.lemmas.Option.{slice_get_read}
use Rattle.pst_graph.specs.Writes.{IsWriteBy}
use Rattle.pst_graph.proofs.UsesListed.{lengthens_then}
use Rattle.pst_graph.proofs.WritesListed.{writes_more}
use Rattle.pst_graph.proofs.writes.push_writes.Goals as goal

pub loop-i-preserved : goal.loop-i-preserved
loop-i-preserved c =
    let references = c.args.references.now in
    let is = slice_get_read references (length references) c.loop-i.i c.index-references-i.result refl c.loop-i-test.true c.index-references-i.is in
    let pushed = c.in_ok-push_write.ensures in
    record {
      longer = lengthens_then c.args.writes.now.items c.loop-i.writes.items c.push_write.new.writes.items (IsWriteBy c.args.a) c.loop-i.invariant.longer pushed.0;
      all = writes_more c.loop-i.writes.items c.push_write.new.writes.items references c.args.a c.loop-i.i c.index-references-i.result is c.loop-i.invariant.all pushed.0 pushed.1;
    }
