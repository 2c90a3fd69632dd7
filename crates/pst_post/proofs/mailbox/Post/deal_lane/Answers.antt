use Rattle.std.proofs.Common.{rules}
use Rattle.pst_post.proofs.Dealing.{splits}
use Rattle.pst_post.proofs.mailbox.Post.deal_lane.Goals as goal

pub split_seat-dealt-requires : goal.split_seat-dealt-requires
split_seat-dealt-requires g c = (search rules, search rules, splits _ _ c.seat.invariant _ _ (search rules) (search rules))
