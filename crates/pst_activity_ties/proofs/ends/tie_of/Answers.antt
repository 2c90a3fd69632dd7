use Rattle.pst_activity_ties.proofs.Rows.{tie}
use Rattle.pst_activity_ties.proofs.ends.tie_of.Goals as goal

pub returns : goal.returns
returns c = (λ i. tie (c.in_ok-from_handle.ensures i) (c.in_ok-from_reference.ensures i) (c.in_ok-to_handle.ensures i) (c.in_ok-to_reference.ensures i))
