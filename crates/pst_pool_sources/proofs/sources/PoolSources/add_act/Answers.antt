use Rattle.std.proofs.Common.{ap, ◌∙◌}
use Rattle.pst_pool_sources.specs.Offers.{but_last}
use Rattle.pst_pool_sources.proofs.Lists.{but_appended, length-fitting_in}
use Rattle.pst_pool_sources.proofs.sources.PoolSources.add_act.Goals as goal

pub returns-then-count-references-clause-err : goal.returns-then-count-references-clause-err
returns-then-count-references-clause-err c = λ need p.
    c.take_references.ensures.ends need p
    ∙ ap (but_last _) (c.add_some-count.ensures.added need p)
    ∙ but_appended _ _ _ (length-fitting_in need p c.args.act 0 _)
