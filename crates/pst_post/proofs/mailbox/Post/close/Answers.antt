use Rattle.std.proofs.Common.{ℕ, ◌<◌, get_or, None, rules, subst}
use Rattle.std.specs.Mem.Slots.{slots_items}
use Rattle.pst_post.specs.Gathered.{IsOutstanding}
use Rattle.pst_post.specs.Seats.{BookState, lane_entry}
use Rattle.pst_post.specs.Views.{entries_of, entry_at}
use Rattle.pst_post.proofs.Closing.{IsClosed, closes}
use Rattle.pst_post.proofs.LaneRules.{one_meaning}
use Rattle.pst_post.proofs.mailbox.Post.close.Goals as goal
use Rattle.pst_post.proofs.mailbox.Post.close.Goals.{After-close_with-closed}

closed : (c : After-close_with-closed) (k : ℕ) → k < c.args.self.words → IsClosed (get_or (slots_items c.close_with-closed.result.words) k 0) (entry_at (entries_of c.seat.inside.seat.me.0) k)
closed c k small = closes _ _ c.seat.invariant _ _ _ c.close_with-closed.ensures.values.2 k (search rules) (search rules)

pub actions_in-outstanding-requires-clause-small : goal.actions_in-outstanding-requires-clause-small
actions_in-outstanding-requires-clause-small c k below = (closed (goal.at.actions_in-outstanding-requires-clause-small c).After-close_with-closed k (search rules)).small

pub returns-clause-each : goal.returns-clause-each
returns-clause-each c k below =
    let word = closed (goal.at.returns-clause-each c).After-close_with-closed k below in
    let same = one_meaning _ _ (get_or c.actions_in-outstanding.result k None) word.word_is (c.actions_in-outstanding.ensures.each k (search rules)) in
    subst (IsOutstanding (lane_entry c.args.seat k)) same (subst (λ (b : BookState). IsOutstanding (lane_entry b k) word.outstanding) c.seat.view_is word.left)
