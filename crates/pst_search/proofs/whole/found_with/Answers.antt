use Rattle.std.proofs.Common.{sym, subst, ap, ◌∙◌}
use Rattle.pst_scen.specs.Plans.{IsPlanOf}
use Rattle.pst_legal.specs.ValueReading.{Whole}
use Rattle.pst_search.proofs.Looks.{whole_is, has_plan}
use Rattle.pst_search.proofs.whole.found_with.Goals as goal

pub returns : goal.returns
returns c =
    let k = c.args.lists.now in
    let r = c.in-Some.scenario.now in (
      whole_is k r c.requires.whole c.in-Some.ensures.read ∙ ap Whole (sym c.in_ok-copy.ensures),
      subst (λ s. IsPlanOf s c.args.plan) (sym c.in_ok-copy.ensures) (has_plan k c.args.plan r c.requires.whole c.in-Some.ensures.read c.requires.plan),
    )
