use Rattle.std.proofs.Common.{◌≡◌, ◌++◌, List, ap, ◌∙◌}
use Rattle.pst_tree.specs.Needed.{needs_within}
use Rattle.pst_tree.proofs.Needing.{all_more}
use Rattle.pst_action_needs.specs.Inheriting.{is_need_of}
use Rattle.pst_action_needs.proofs.rows.add_all.Goals as goal

pub loop-owner-preserved : goal.loop-owner-preserved
loop-owner-preserved c =
    all_more (needs_within (is_need_of c.args.by) c.args.index.now) c.args.owners.now c.loop-owner.owner-index c.loop-owner.found.items c.add_own.new.found.items _ c.loop-owner-test.true c.in_ok-add_own.ensures c.loop-owner.invariant
