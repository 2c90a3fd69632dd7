use Rattle.std.proofs.Common.{ℕ, subst}
use Rattle.std.proofs.lemmas.Bool.{eqb-true, eq-eqb}
use Rattle.pst_scen.specs.Tree.{IsNearestSequence}
use Rattle.pst_nodes.proofs.Climbs.{one_nearest}
use Rattle.pst_nodes.proofs.before.is_nearest.Goals as goal

pub returns-in-Some : goal.returns-in-Some
returns-in-Some c = (
  λ t. subst (λ (q : ℕ). IsNearestSequence c.args.nodes.now q c.args.n) (eqb-true c.in-Some.top c.args.sequence t) c.in-Some.ensures,
  λ other. eq-eqb c.in-Some.top c.args.sequence (one_nearest c.args.nodes.now c.in-Some.top c.args.sequence c.args.n c.in-Some.ensures other),
)
