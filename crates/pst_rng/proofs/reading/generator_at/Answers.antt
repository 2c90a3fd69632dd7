use Rattle.pst_rng.proofs.Generators.{jumped}
use Rattle.pst_rng.proofs.reading.generator_at.Goals as goal

pub returns : goal.returns
returns c =
    jumped c.args.seed c.args.place c.from.result _ _ c.seed_from_u64-generator.ensures c.from.ensures c.advance.ensures
