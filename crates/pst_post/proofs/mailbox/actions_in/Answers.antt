use Rattle.std.proofs.Common.{◌≤◌, arith, subst}
use Rattle.pst_post.proofs.Lists.{get_or-there}
use Rattle.pst_post.proofs.LeftActions.{reads_one}
use Rattle.pst_post.proofs.mailbox.actions_in.Goals as goal

pub action_in-requires : goal.action_in-requires
action_in-requires c = subst (λ w. w ≤ 4294967296) (get_or-there _ c.loop-lane.lane c.word.result 0 c.word.ensures) (c.requires.small c.loop-lane.lane c.loop-lane-test.true)

pub loop-lane-preserved : goal.loop-lane-preserved
loop-lane-preserved c = reads_one _ _ _ _ _ (omega arith) c.word.ensures c.action_in.ensures c.loop-lane.invariant
