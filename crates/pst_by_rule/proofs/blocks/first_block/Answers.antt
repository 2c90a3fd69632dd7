use Rattle.std.proofs.Common.{ℕ, sym, subst}
use Rattle.pst_by_rule.specs.Blocks.{IsFirstBlock}
use Rattle.pst_by_rule.proofs.Onward.{first_block_of}
use Rattle.pst_by_rule.proofs.blocks.first_block.Goals as goal

pub returns : goal.returns
returns c = subst (λ (n : ℕ). IsFirstBlock c.args.events.now n) (sym c.count_first.ensures) (first_block_of c.args.events.now c.requires.blocks c.requires.some)
