use Rattle.std.proofs.Common.{◌-◌, arith}
use Rattle.pst_shape.specs.Walks.{answer}
use Rattle.pst_tests_lists.proofs.Digits.{has_digit}
use Rattle.pst_tests_lists.proofs.activity_walk.detour.Goals as goal

pub choose-requires : goal.choose-requires
choose-requires c = has_digit (answer c.args.walk.now 0) c.in-Options.n (c.in-Options.n - 1) (c.in-Options.ensures 0) (omega arith)
