use Rattle.std.proofs.Common.{subst}
use Rattle.pst_static.specs.Drafts.{AreTables}
use Rattle.pst_static.proofs.Drafting.{drafting_first, drafted_all}
use Rattle.pst_static.proofs.drafts.drafts_of.Goals as goal

pub loop-at-init : goal.loop-at-init
loop-at-init c =
    let q = c.requires.dealt in
    drafting_first c.args.plan.now c.args.lanes c.args.dealt.now q.0 q.1 q.2 c.in_ok-latest.latest.items c.in_ok-heard.heard.items c.in_ok-drafts.drafts.items c.args.told.now
    (subst (λ k. AreTables c.args.lanes k c.in_ok-latest.latest.items) c.len.ensures.is c.in_ok-latest.ensures) c.in_ok-heard.ensures c.in_ok-drafts.ensures c.requires.none

pub returns : goal.returns
returns c =
    let l = c.loop-at in
    drafted_all c.args.plan.now c.args.lanes c.args.dealt.now l.at l.latest.items l.heard.items l.drafts.items l.told c.loop-at-test.false l.invariant
