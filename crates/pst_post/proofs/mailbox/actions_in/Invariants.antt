use Rattle.std.specs.Mem.Slots.{slots_items}
use Rattle.pst_post.proofs.LeftActions.{AreRead}
use Rattle.pst_post.proofs.mailbox.actions_in.Given as goal

abbrev pub invariant-loop-lane : goal.invariant-loop-lane
invariant-loop-lane l = AreRead (slots_items l.closed.words) l.actions l.lane
