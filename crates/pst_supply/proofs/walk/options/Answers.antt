use Rattle.std.proofs.Common.{◌∙◌}
use Rattle.pst_scen.specs.declared.act.Flow.TheVariants as flow
use Rattle.pst_supply.proofs.walk.options.Goals as goal

pub sources-requires-clause-free : goal.sources-requires-clause-free
sources-requires-clause-free c = c.ends-free.ensures ∙ c.requires.among.ends c.args.need.now.flow c.args.need.now.pool

pub sources-requires-clause-writers : goal.sources-requires-clause-writers
sources-requires-clause-writers c = c.ends-writers.ensures ∙ c.requires.among.ends flow.StateIn c.args.need.now.pool

pub sources-requires-clause-begun : goal.sources-requires-clause-begun
sources-requires-clause-begun c = c.is_begun-begun.ensures ∙ c.requires.among.begun c.args.need.now.pool
