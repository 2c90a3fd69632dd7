use Rattle.std.proofs.Common.{length, refl}
use Rattle.std.proofs.lemmas.Option.{slice_get_read}
use Rattle.pst_graph.proofs.UsesListed.{claims_longer, claims_more}
use Rattle.pst_graph.proofs.usage.push_claims.Goals as goal

pub loop-i-preserved : goal.loop-i-preserved
loop-i-preserved c =
    let claims = c.args.claims.now in
    let is = slice_get_read claims (length claims) c.loop-i.i c.index-claims-i.result refl c.loop-i-test.true c.index-claims-i.is in
    let pushed = c.in_ok-push_claim.ensures in
    record {
      longer = claims_longer c.args.uses.now.items c.loop-i.uses.items c.push_claim.new.uses.items claims c.args.a c.loop-i.i c.index-claims-i.result is c.loop-i.invariant.longer pushed.0;
      all = claims_more c.args.uses.now.items c.loop-i.uses.items c.push_claim.new.uses.items claims c.args.a c.loop-i.i c.index-claims-i.result is c.loop-i.invariant.all pushed.0 pushed.1;
    }
