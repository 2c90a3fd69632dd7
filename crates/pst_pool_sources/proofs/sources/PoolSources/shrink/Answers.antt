use Rattle.std.proofs.Common.{sym, ap, ◌∙◌, arith}
use Rattle.std.proofs.lemmas.List.{drop_all, take_rest}
use Rattle.pst_pool_sources.specs.Offers.{but_last, ends_at, count_from}
use Rattle.pst_pool_sources.proofs.Lists.{but_none}
use Rattle.pst_pool_sources.proofs.sources.PoolSources.shrink.Goals as goal

pub returns-then-count-acts-clause-ends : goal.returns-then-count-acts-clause-ends
returns-then-count-acts-clause-ends c = λ need p.
    let ends = ends_at need p c.args.self.now in
    sym (ap (λ l. but_last (count_from need p l) ends) (drop_all c.args.count c.args.acts.now (omega arith)) ∙ but_none ends)

pub returns-clause-ends : goal.returns-clause-ends
returns-clause-ends c = λ need p.
    let ends = ends_at need p c.args.self.now in
    c.take_acts.ensures.ends need p ∙ ap (λ l. but_last (count_from need p l) ends) (take_rest c.args.acts.now c.args.count)
