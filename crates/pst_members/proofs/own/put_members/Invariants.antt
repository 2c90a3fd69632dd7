use Rattle.pst_members.specs.Links.{up_to}
use Rattle.pst_members.proofs.Walking.{IsPut}
use Rattle.pst_members.proofs.own.put_members.Given as goal

abbrev pub invariant-loop-at : goal.invariant-loop-at
invariant-loop-at l = IsPut l.declarations l.fn.scope l.initial.versions l.base l.versions l.version l.at

abbrev pub decreases-loop-at : goal.decreases-loop-at
decreases-loop-at l = up_to l.at
