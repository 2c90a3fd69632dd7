use Rattle.std.proofs.Common.{refl}
use Rattle.pst_terms.proofs.laws.slots_are_tried.Goals as goal

pub returns : goal.returns
returns c = record { once = refl; apart = refl; array_first = refl; own_index = refl; no_slots = refl }
