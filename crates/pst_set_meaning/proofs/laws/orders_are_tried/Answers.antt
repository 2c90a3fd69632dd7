use Rattle.pst_set_meaning.proofs.Tried.{parts, ends}
use Rattle.pst_set_meaning.proofs.laws.orders_are_tried.Goals as goal

pub returns : goal.returns
returns c = record { parts = parts; ends = ends }
