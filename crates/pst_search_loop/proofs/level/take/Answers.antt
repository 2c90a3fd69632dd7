use Rattle.std.proofs.Common.{arith}
use Rattle.pst_search_loop.proofs.Stack.{stands_on}
use Rattle.pst_search_loop.proofs.level.take.Goals as goal

pub returns : goal.returns
returns g c =
    let k = g.W.Walker.kept c.args.walker.now in
    let l = g.W.Walker.kept c.choose.new.self in
    record {
      stands = stands_on k l c.args.frames.now.items c.push.new.self.items c.args.frame c.requires.stands c.in_ok-choose.ensures c.in_ok-push.ensures.items c.requires.options.0 c.requires.options.1 c.requires.named c.requires.passed;
      is = c.in_ok-choose.ensures;
      small = omega arith;
    }
