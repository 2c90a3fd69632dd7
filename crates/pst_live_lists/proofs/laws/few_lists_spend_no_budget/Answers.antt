use Rattle.pst_live_lists.proofs.Budgets.{found_within, done_within}
use Rattle.pst_live_lists.proofs.laws.few_lists_spend_no_budget.Goals as goal

pub returns : goal.returns
returns c = record { found = found_within; done = done_within }
