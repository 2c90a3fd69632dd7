use Rattle.std.proofs.Common.{◌<◌, arith}
use Rattle.pst_search_loop.proofs.walker.Skipped.nothing.Goals as goal

pub returns : goal.returns
returns c k count small = record {
  least = omega arith;
  most = small;
  within = λ p h. let l : p < 0 = c.nothing.ensures.places p h in let bad : ⊥ = omega (arith, l) in absurd bad;
  each = λ d l m. let bad : ⊥ = omega (arith, l, m) in absurd bad;
}
