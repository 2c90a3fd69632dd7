use Rattle.std.proofs.Common.{◌<◌, length, refl, arith}
use Rattle.std.proofs.lemmas.Option.{slice_get_within, slice_get_read}
use Rattle.std.proofs.lemmas.Bool.Decides.{nat_tests}
use Rattle.pst_check.specs.Tests.{HasReaderOpen}
use Rattle.pst_check.proofs.Places.{no_true, none_more}
use Rattle.pst_check.proofs.starts.are_readers_open.Goals as goal

pub loop-i-preserved : goal.loop-i-preserved
loop-i-preserved c =
    none_more (HasReaderOpen c.args.scenario.now c.args.past.now c.args.b) c.args.references.now c.loop-i.i c.index-references-i.result
    (slice_get_read c.args.references.now (length c.args.references.now) c.loop-i.i c.index-references-i.result refl c.loop-i-test.true c.index-references-i.is)
    (λ h. no_true (c.if-is_reader_open.ensures.1 h)) c.loop-i.invariant

pub returns : goal.returns
returns c = (
  λ t. absurd (no_true t),
  λ h.
      let within = slice_get_within c.args.references.now h.place h.element h.is in
      let below : h.place < c.loop-i.i = grind (arith, nat_tests, within, c.loop-i-test.false) in
      absurd (c.loop-i.invariant h.place h.element below h.is h.has),
)
