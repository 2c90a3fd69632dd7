use Rattle.std.proofs.Common.{◌<◌, arith}
use Rattle.std.proofs.lemmas.Option.{slice_get_within}
use Rattle.std.proofs.lemmas.Bool.Decides.{nat_tests}
use Rattle.pst_check.proofs.Places.{no_true}
use Rattle.pst_check.proofs.rules.names_twice.Goals as goal

pub returns : goal.returns
returns c = (
  λ t. absurd (no_true t),
  λ h.
      let within = slice_get_within c.args.part.now h.second h.event h.is in
      let below : h.second < c.loop-place.place = grind (arith, nat_tests, within, c.loop-place-test.false) in
      absurd (c.loop-place.invariant h.second h.event below h.is h.before),
)
