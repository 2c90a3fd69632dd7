use Rattle.pst_graph.specs.Named.{IsNaming}
use Rattle.pst_square.proofs.Adding.{adds_none}
use Rattle.pst_graph.proofs.named.add_naming.Goals as goal

pub returns-in_default : goal.returns-in_default
returns-in_default c = adds_none c.args.square.now (IsNaming c.args.filled.now c.args.x) (λ a b h. c.in_default.ensures a h.leads)

pub add-requires-clause-a_in : goal.add-requires-clause-a_in
add-requires-clause-a_in c = c.requires.inside c.in-Some.a c.in-Some.ensures
