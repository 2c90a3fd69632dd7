use Rattle.pst_claim_counts.proofs.Refuse.{refuse}
use Rattle.pst_claim_counts.proofs.laws.too_many_claims_refuse_lists.Goals as goal

pub returns : goal.returns
returns c = refuse c.rivals_differ.ensures c.orders_stay.ensures c.legal_is_unrefused.ensures c.longer_lists_keep_what_is_known.ensures
