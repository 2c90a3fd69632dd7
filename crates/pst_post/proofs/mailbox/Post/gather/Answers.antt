use Rattle.std.proofs.Common.{rules}
use Rattle.pst_post.proofs.Gathering.{joins}
use Rattle.pst_post.proofs.mailbox.Post.gather.Goals as goal

pub join_seat-requires : goal.join_seat-requires
join_seat-requires c = (search rules, search rules, search rules, search rules, joins _ _ c.seat.invariant _ _ _ _ c.lane_seat.invariant _)
