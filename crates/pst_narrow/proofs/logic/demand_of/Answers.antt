use Rattle.pst_expr.specs.Tree.{view}
use Rattle.pst_expr.specs.declared.tree.BinaryOp.TheVariants.{And, Or, Implies}
use Rattle.pst_narrow.proofs.DemandLemmas.{follows_along}
use Rattle.pst_narrow.proofs.logic.demand_of.Goals as goal

pub returns-in-And : goal.returns-in-And
returns-in-And c = follows_along And c.args.op (view c.args.left.now) (view c.args.right.now) c.args.wanted c.args.bounds.now c.and_demand.result c.in-And.is c.and_demand.ensures

pub returns-in-Or : goal.returns-in-Or
returns-in-Or c = follows_along Or c.args.op (view c.args.left.now) (view c.args.right.now) c.args.wanted c.args.bounds.now c.or_demand.result c.in-Or.is c.or_demand.ensures

pub returns-in-Implies : goal.returns-in-Implies
returns-in-Implies c = follows_along Implies c.args.op (view c.args.left.now) (view c.args.right.now) c.args.wanted c.args.bounds.now c.implies_demand.result c.in-Implies.is c.implies_demand.ensures
