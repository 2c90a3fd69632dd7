use Rattle.std.proofs.Common.{◌≡◌, subst, arith}
use Rattle.pst_narrow.specs.Mentions.{IsElement, AreNoted}
use Rattle.pst_narrow.proofs.NotedLemmas.{no_elements, elements_more}
use Rattle.pst_narrow.proofs.mentions.add_elements.Goals as goal

pub loop-i-init : goal.loop-i-init
loop-i-init c = no_elements c.args.first c.args.numbers.now.items

pub loop-i-preserved : goal.loop-i-preserved
loop-i-preserved c = elements_more c.args.first c.loop-i.i c.args.numbers.now.items c.loop-i.numbers.items c.push.new.self.items c.loop-i.invariant c.in_ok-push.ensures.items

pub returns : goal.returns
returns c = let end : c.loop-i.i ≡ c.args.count = omega arith in subst (λ n. AreNoted (IsElement c.args.first n) c.args.numbers.now.items c.loop-i.numbers.items) end c.loop-i.invariant
