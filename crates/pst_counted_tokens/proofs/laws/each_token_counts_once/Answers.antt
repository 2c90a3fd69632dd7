use Rattle.pst_counted_tokens.proofs.Rules.{each_of_rule}
use Rattle.pst_counted_tokens.proofs.laws.each_token_counts_once.Goals as goal

pub returns : goal.returns
returns c = each_of_rule
