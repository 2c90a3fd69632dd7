use Rattle.pst_built.proofs.MoreKnownRefused.{still_refused}
use Rattle.pst_built.proofs.more_known_laws.refusals_go_on.Goals as goal

pub returns : goal.returns
returns c = still_refused c.narrower_bounds_give_inner_spans.ensures c.spans_are_sane.ensures
