use Rattle.std.proofs.Common.{◌≡◌, false, length, arith}
use Rattle.std.proofs.lemmas.Grind.{common_steps}
use Rattle.pst_steady.proofs.Settling.{are_reached}
use Rattle.pst_steady.proofs.reach.settle_whole.Goals as goal

pub returns-then-not-settle_all : goal.returns-then-not-settle_all
returns-then-not-settle_all c =
    let long : length c.settle_all.new.values ≡ length c.args.seeds.now = grind (arith, common_steps) in
    let no : c.settle_all.result ≡ false = grind (arith, common_steps) in
    are_reached c.args.seeds.now c.args.bases.now c.settle_all.new.values long c.settle_all.ensures.sound (c.settle_all.ensures.settled no)
