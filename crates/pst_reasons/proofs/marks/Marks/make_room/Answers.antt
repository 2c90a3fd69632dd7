use Rattle.std.proofs.Common.{sym, ◌∙◌}
use Rattle.pst_reasons.proofs.marks.Marks.make_room.Goals as goal

pub invariant_of-self : goal.invariant_of-self
invariant_of-self c = c.self.invariant ∙ sym c.add_flags.ensures.marked
