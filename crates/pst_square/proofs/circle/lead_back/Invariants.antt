use Rattle.std.proofs.Common.{◌≡◌, length}
use Rattle.pst_square.specs.Circles.{AreChains}
use Rattle.pst_square.proofs.circle.lead_back.Given as goal

abbrev pub invariant-loop : goal.invariant-loop
invariant-loop l = record { many : length l.words ≡ length l.fn.words; sound : AreChains l.count l.row l.fn.words l.words }
