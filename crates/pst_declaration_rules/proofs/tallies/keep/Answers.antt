use Rattle.pst_declaration_rules.proofs.Tallying.{keeps}
use Rattle.pst_declaration_rules.proofs.tallies.keep.Goals as goal

pub returns : goal.returns
returns c = keeps c.args.known.now c.args.tallies.now c.requires.tallied c.args.at c.args.tally c.requires.within c.requires.right
