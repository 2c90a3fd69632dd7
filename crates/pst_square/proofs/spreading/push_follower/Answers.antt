use Rattle.std.proofs.Common.{ℕ, List, sym, subst, ◌+◌}
use Rattle.pst_square.specs.Listed.{ListsAll}
use Rattle.pst_square.specs.Spread.{IsFollower}
use Rattle.pst_square.proofs.Lists.{lists_more}
use Rattle.pst_square.proofs.spreading.push_follower.Goals as goal

pub returns-in_ok-push : goal.returns-in_ok-push
returns-in_ok-push c =
    subst (λ (list : List ℕ). ListsAll (IsFollower c.args.groups.now) (c.args.b + 1) list) (sym c.in_ok-push.ensures.items)
    (lists_more (IsFollower c.args.groups.now) c.args.followers.now.items c.args.b c.requires.before)
