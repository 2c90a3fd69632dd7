use Rattle.pst_desk.proofs.Posts.{Posted}
use Rattle.pst_desk.proofs.posting.post_all.Given as goal

abbrev pub invariant-loop-lane : goal.invariant-loop-lane
invariant-loop-lane l = Posted l.book.trace l.post.words l.fn.seat l.seat l.lane l.posted
