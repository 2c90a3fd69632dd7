use Rattle.std.proofs.Common.{◌<◌, length, refl, arith}
use Rattle.std.proofs.lemmas.Option.{slice_get_within, slice_get_read}
use Rattle.std.proofs.lemmas.Bool.Decides.{nat_tests}
use Rattle.pst_nodes.proofs.Bits.{no_true}
use Rattle.pst_graph.specs.Links.{IsReplaced}
use Rattle.pst_graph.proofs.Loops.{none_more}
use Rattle.pst_graph.proofs.links.reads_replaced.Goals as goal

pub returns : goal.returns
returns c = (
  λ t. absurd (no_true t),
  λ h.
      let within = slice_get_within c.args.own.now h.reference h.filled h.is in
      let below : h.reference < c.loop-i.i = grind (arith, nat_tests, within, c.loop-i-test.false) in
      absurd (c.loop-i.invariant h.reference h.filled below h.is h.reads),
)

pub loop-i-preserved : goal.loop-i-preserved
loop-i-preserved c =
    none_more (IsReplaced c.args.others.now) c.args.own.now c.loop-i.i c.index-own-i.result
    (slice_get_read c.args.own.now (length c.args.own.now) c.loop-i.i c.index-own-i.result refl c.loop-i-test.true c.index-own-i.is)
    (λ has. no_true (c.if-is_replaced.ensures.1 has)) c.loop-i.invariant
