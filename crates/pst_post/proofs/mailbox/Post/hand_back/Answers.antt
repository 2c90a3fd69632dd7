use Rattle.std.proofs.Common.{rules}
use Rattle.pst_post.proofs.WordSteps.{hands_back}
use Rattle.pst_post.proofs.mailbox.Post.hand_back.Goals as goal

pub swap-requires : goal.swap-requires
swap-requires c = (search rules, search rules, hands_back _ _ _ _ _ c.seat.invariant (search rules))
