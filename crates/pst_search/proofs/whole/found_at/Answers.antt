use Rattle.std.proofs.Common.{sym, subst, ap, ◌∙◌}
use Rattle.pst_legal.specs.ValueReading.{Whole}
use Rattle.pst_order.specs.Built.{IsBuilt}
use Rattle.pst_search.proofs.Looks.{whole_is, whole_built}
use Rattle.pst_search.proofs.whole.found_at.Goals as goal

pub plan_of-requires : goal.plan_of-requires
plan_of-requires c = subst IsBuilt (sym c.in_ok-copy.ensures) (whole_built c.args.lists.now c.whole_readings_are_built.ensures.built c.in-Some.scenario.now c.requires c.in-Some.ensures.read)

pub returns-in-Ok : goal.returns-in-Ok
returns-in-Ok c = (whole_is c.args.lists.now c.in-Some.scenario.now c.requires c.in-Some.ensures.read ∙ ap Whole (sym c.in_ok-copy.ensures), c.in-Ok.ensures.answers)
