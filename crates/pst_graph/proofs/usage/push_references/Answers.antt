use Rattle.std.proofs.Common.{length, refl}
use Rattle.std.proofs.lemmas.Option.{slice_get_read}
use Rattle.pst_graph.proofs.UsesListed.{references_longer, references_more}
use Rattle.pst_graph.proofs.usage.push_references.Goals as goal

pub loop-i-preserved : goal.loop-i-preserved
loop-i-preserved c =
    let references = c.args.references.now in
    let is = slice_get_read references (length references) c.loop-i.i c.index-references-i.result refl c.loop-i-test.true c.index-references-i.is in
    let pushed = c.in_ok-push_reference.ensures in
    record {
      longer = references_longer c.args.uses.now.items c.loop-i.uses.items c.push_reference.new.uses.items references c.args.a c.loop-i.i c.index-references-i.result is c.loop-i.invariant.longer pushed.0;
      all = references_more c.args.uses.now.items c.loop-i.uses.items c.push_reference.new.uses.items references c.args.a c.loop-i.i c.index-references-i.result is c.loop-i.invariant.all pushed.0 pushed.1;
    }
