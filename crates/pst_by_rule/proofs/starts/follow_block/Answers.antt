use Rattle.std.proofs.Common.{◌++◌, List, sym, subst}
use Rattle.pst_scen.specs.declared.event.Event.{Event}
use Rattle.pst_scen.specs.Trace.{Block}
use Rattle.pst_order.specs.Rule.{FollowsRule}
use Rattle.pst_by_rule.specs.Counted.{AreCounted}
use Rattle.pst_by_rule.proofs.Onward.{block_starts, block_ends}
use Rattle.pst_by_rule.proofs.Ruled.{starts_follow, end_is, on_true}
use Rattle.pst_by_rule.proofs.starts.follow_block.Goals as goal

pub follow_starts-requires-clause-counted : goal.follow_starts-requires-clause-counted
follow_starts-requires-clause-counted c = let k = c.requires.counted in (k.0, c.args.ended.now, k.1)

pub follow_end-requires : goal.follow_end-requires
follow_end-requires c = let k = c.requires.counted in record { counted = (k.0, c.args.next.now, k.1) }

pub returns-in-Start : goal.returns-in-Start
returns-in-Start c =
    λ t k.
    let part = c.args.part.now in
    on_true c.follow_starts.result
    (λ q. (
      λ s plan. subst (λ (b : Block). FollowsRule s 16 t b) (sym (block_starts part _ c.in-Start.act c.in-Start.lane c.in-Start.more c.requires.some c.in-Start.is))
          (starts_follow c.groups_are_whole.ensures.whole c.whole_is_sound.ensures.inside s c.args.plan.now t part plan q.0),
      q.1,
    ))
    (c.follow_starts.ensures t c.args.ended.now k)

pub returns-in-End : goal.returns-in-End
returns-in-End c =
    λ t k.
    let part = c.args.part.now in
    let block = block_ends part _ c.in-End.act c.requires.some c.in-End.is in
    on_true c.follow_end.result
    (λ q. (
      λ s plan. subst (λ (b : Block). FollowsRule s 16 t b) (sym block) q.0,
      subst (λ (xs : List Event). AreCounted c.args.plan.now (t ++ xs) c.args.started.now c.follow_end.new.ended c.follow_end.new.awaited c.follow_end.new.in_the_way c.args.next.now c.follow_end.new.holders)
          (sym (end_is part c.in-End.act c.requires.one block)) q.1,
    ))
    (c.follow_end.ensures t c.args.next.now k)
