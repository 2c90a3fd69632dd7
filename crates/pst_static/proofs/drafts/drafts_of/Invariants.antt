use Rattle.pst_static.specs.Drafts.{IsDrafting}
use Rattle.pst_static.proofs.drafts.drafts_of.Given as goal

abbrev pub invariant-loop-at : goal.invariant-loop-at
invariant-loop-at l = IsDrafting l.plan l.lanes l.dealt l.at l.latest.items l.heard.items l.drafts.items l.told
