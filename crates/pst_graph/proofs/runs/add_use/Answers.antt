use Rattle.std.proofs.Common.{inl, inr, refl}
use Rattle.pst_graph.proofs.Running.{use_added}
use Rattle.pst_graph.proofs.runs.add_use.Goals as goal

pub returns-then-one : goal.returns-then-one
returns-then-one c =
    use_added c.args.square.now c.add_marked.new.self c.args.uses.now c.args.from c.args.to c.args.i _ c.args.all.now c.requires.run c.requires.low c.requires.high c.requires.all (inl (refl, c.if-one.true)) c.add_marked.ensures

pub returns-else-one : goal.returns-else-one
returns-else-one c =
    use_added c.args.square.now c.add_marked-else-one.new.self c.args.uses.now c.args.from c.args.to c.args.i _ c.args.lone.now c.requires.run c.requires.low c.requires.high c.requires.lone (inr (refl, c.if-one.false)) c.add_marked-else-one.ensures
