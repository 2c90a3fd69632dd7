use Rattle.pst_complete_answers.proofs.Rows.{found_rows, missed_rows}
use Rattle.pst_complete_answers.proofs.laws.rows_are_fixed.Goals as goal

pub returns : goal.returns
returns c = record { found = found_rows c.first_is_one.ensures c.few_lists_spend_no_budget.ensures.found; none = missed_rows c.few_lists_spend_no_budget.ensures.done }
