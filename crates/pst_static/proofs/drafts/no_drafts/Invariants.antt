use Rattle.pst_static.specs.Drafts.{AreEmpty}
use Rattle.pst_static.proofs.drafts.no_drafts.Given as goal

abbrev pub invariant-loop-lane : goal.invariant-loop-lane
invariant-loop-lane l = AreEmpty l._lane l.drafts.items
