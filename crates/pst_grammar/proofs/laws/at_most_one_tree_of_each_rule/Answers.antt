use Rattle.pst_grammar.proofs.Within.{each_rule}
use Rattle.pst_grammar.proofs.laws.at_most_one_tree_of_each_rule.Goals as goal

pub returns : goal.returns
returns c = each_rule c.one_tree_of_expressions.ensures c.at_most_one_unit.ensures
