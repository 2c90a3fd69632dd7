use Rattle.std.proofs.Common.{◌<◌, length, refl, arith}
use Rattle.pst_nodes.proofs.Bits.{no_true}
use Rattle.pst_graph.proofs.Refused.{ordered_has}
use Rattle.pst_graph.proofs.refusals.is_ordered_beside.Goals as goal

pub returns-then-not-is_ordered : goal.returns-then-not-is_ordered
returns-then-not-is_ordered c =
    let s = c.args.scenario.now in
    let a_in : c.args.a < length s.actions = let order = c.requires.order in let b_in = c.requires.b_in in omega (arith, order, b_in) in (
      λ t. absurd (no_true t),
      λ h. absurd (no_true (c.if-not-is_ordered.ensures.1 ((ordered_has s c.args.plan.now c.requires.linked c.requires.entries c.args.a c.args.b a_in c.requires.b_in).1 h.must))),
    )

pub returns : goal.returns
returns c =
    let s = c.args.scenario.now in
    let a_in : c.args.a < length s.actions = let order = c.requires.order in let b_in = c.requires.b_in in omega (arith, order, b_in) in (
      λ t.
          record {
            order = c.requires.order;
            parallel = c.stand_parallel.ensures.0 t;
            must = (ordered_has s c.args.plan.now c.requires.linked c.requires.entries c.args.a c.args.b a_in c.requires.b_in).0 (c.if-not-is_ordered.ensures.0 refl);
          },
      λ h. c.stand_parallel.ensures.1 h.parallel,
    )
