use Rattle.std.proofs.Common.{ap, subst}
use Rattle.pst_model.specs.ModelView.{view_model}
use Rattle.pst_claim_counts.specs.Counts.{AreTooMany}
use Rattle.pst_search.proofs.Looks.{built_at}
use Rattle.pst_search.proofs.Short.{few_barren}
use Rattle.pst_search.proofs.looking.claims_refuse.Goals as goal

pub has_too_few_instances-requires : goal.has_too_few_instances-requires
has_too_few_instances-requires c = built_at c.args.lists.now c.sources_are_built.ensures c.requires c.in-Some.ensures.sources c.in-Some.scenario.now c.in-Some.ensures.read

pub returns : goal.returns
returns c =
    λ on. few_barren c.args.lists.now c.too_many_claims_refuse_lists.ensures c.requires c.in-Some.scenario.now c.in-Some.ensures.read
    (subst (λ m. AreTooMany m c.in-Some.scenario.now) (ap view_model c.model.ensures) (c.in_ok-short.ensures on))
