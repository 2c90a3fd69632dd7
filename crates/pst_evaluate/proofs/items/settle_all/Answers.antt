use Rattle.pst_evaluate.proofs.Settling.{are_item_values}
use Rattle.pst_evaluate.proofs.items.settle_all.Goals as goal

pub returns-then-branch : goal.returns-then-branch
returns-then-branch c = are_item_values c.args.sources.now c.requires.listed c.settle_each.new.values c.in_ok-settle_each.ensures (c.in_ok-are_settled.ensures c.if-branch.true)
