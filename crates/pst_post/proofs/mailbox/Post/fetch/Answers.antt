use Rattle.std.proofs.Common.{rules}
use Rattle.pst_post.proofs.WordSteps.{fetches}
use Rattle.pst_post.proofs.mailbox.Post.fetch.Goals as goal

pub load-found-requires : goal.load-found-requires
load-found-requires c = (search rules, search rules, fetches _ _ _ _ _ c.seat.invariant (search rules))
