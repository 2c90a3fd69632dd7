use Rattle.std.proofs.Common.{◌<◌, arith}
use Rattle.std.proofs.lemmas.Option.{slice_get_within}
use Rattle.std.proofs.lemmas.Bool.Decides.{nat_tests}
use Rattle.pst_nodes.proofs.Bits.{no_true}
use Rattle.pst_graph.proofs.links.has_own_dispute.Goals as goal

pub returns : goal.returns
returns c = (
  λ t. absurd (no_true t),
  λ h.
      let within = slice_get_within c.args.claims.now h.claim h.claimed h.is in
      let below : h.claim < c.loop-i.i = grind (arith, nat_tests, within, c.loop-i-test.false) in
      absurd (c.loop-i.invariant h.claim h.claimed below h.is h.disputed),
)
