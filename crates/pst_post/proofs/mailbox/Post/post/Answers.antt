use Rattle.std.proofs.Common.{refl, rules}
use Rattle.pst_post.proofs.WordSteps.{posts}
use Rattle.pst_post.proofs.mailbox.Post.post.Goals as goal

pub compare_exchange-before-requires : goal.compare_exchange-before-requires
compare_exchange-before-requires c = (search rules, search rules, posts _ _ _ _ _ c.seat.invariant (search rules) c.args.act (search rules))

pub invariant_of-seat : goal.invariant_of-seat
invariant_of-seat c = let told = c.compare_exchange-before.ensures.2.0 c.args.act refl in search rules
