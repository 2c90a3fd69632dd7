use Rattle.std.proofs.Common.{◌<◌, ◌-◌, ℕ}
use Rattle.pst_square.specs.Bits.{HasBit}
use Rattle.pst_square.specs.Walks.{IsWalked}
use Rattle.pst_square.proofs.walk.settle.Given as goal

abbrev pub decreases-rest : goal.decreases-rest
decreases-rest l = l.count - l.from

abbrev pub invariant-rest : goal.invariant-rest
invariant-rest l = record {
  walked : IsWalked l.count l.row l.base l.words l.stages;
  covered : (b : ℕ) → b < l.from → b < l.count → HasBit l.row l.base l.a b → HasBit l.row l.words l.a b;
}
