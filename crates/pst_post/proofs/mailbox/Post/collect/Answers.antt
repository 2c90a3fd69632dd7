use Rattle.std.proofs.Common.{rules}
use Rattle.pst_post.proofs.WordSteps.{collects}
use Rattle.pst_post.proofs.mailbox.Post.collect.Goals as goal

pub load-found-requires : goal.load-found-requires
load-found-requires c = (search rules, search rules, collects _ _ _ _ _ c.seat.invariant (search rules))
