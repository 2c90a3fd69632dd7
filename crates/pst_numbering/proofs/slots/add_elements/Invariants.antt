use Rattle.std.proofs.Common.{◌≡◌, ◌-◌, map}
use Rattle.pst_terms.specs.Fields.{counted}
use Rattle.pst_terms.specs.Slots.{with_slots}
use Rattle.pst_numbering.specs.Kept.{view_all, kept_at, elements_of}
use Rattle.pst_numbering.proofs.slots.add_elements.Given as goal

abbrev pub invariant-loop-field : goal.invariant-loop-field
invariant-loop-field l = with_slots (view_all l.slots) (map (kept_at l.first) (counted l.field (l.end - l.field))) ≡ with_slots (view_all l.initial.slots) (elements_of l.first l.count)
