use Rattle.std.proofs.Common.{◌<◌, refl, arith}
use Rattle.pst_nodes.specs.Over.{IsAwaited}
use Rattle.pst_nodes.proofs.Climbs.{not_true, child_read, rootless, parent_less, over_here, over_up, over_down, over_root}
use Rattle.pst_nodes.proofs.statements.is_leaf_before.Goals as goal

pub returns-in_default : goal.returns-in_default
returns-in_default c = (
  λ t. absurd (not_true t),
  λ over. absurd (over_root c.args.nodes.now (IsAwaited c.args.nodes.now c.args.leaf c.args.other) c.parents.at
      (λ p. rootless c.args.nodes.now c.parents.at p _ c.parents.invariant.within c.in_default.is)
      (λ has. not_true (c.parents-test.ensures.1 has)) (c.parents.invariant.same.1 over)),
)

pub parents-smaller : goal.parents-smaller
parents-smaller c = parent_less c.args.nodes.now c.parents.at c.in-Some.parent c.requires.preorder (child_read c.args.nodes.now c.parents.at c.in-Some.parent _ c.parents.invariant.within c.in-Some.is)

pub parents-preserved : goal.parents-preserved
parents-preserved c =
    let child = child_read c.args.nodes.now c.parents.at c.in-Some.parent _ c.parents.invariant.within c.in-Some.is in
    let less : c.in-Some.parent < c.parents.at = parent_less c.args.nodes.now c.parents.at c.in-Some.parent c.requires.preorder child in
    let within = c.parents.invariant.within in
    record {
      within = omega (arith, less, within);
      same = (
        λ over. c.parents.invariant.same.0 (over_up c.args.nodes.now (IsAwaited c.args.nodes.now c.args.leaf c.args.other) c.parents.at c.in-Some.parent child over),
        λ over. over_down c.args.nodes.now (IsAwaited c.args.nodes.now c.args.leaf c.args.other) c.parents.at c.in-Some.parent child (λ has. not_true (c.parents-test.ensures.1 has)) (c.parents.invariant.same.1 over),
      );
    }

pub returns : goal.returns
returns c = (
  λ t. c.parents.invariant.same.0 (over_here c.args.nodes.now (IsAwaited c.args.nodes.now c.args.leaf c.args.other) c.parents.at (c.parents-test.ensures.0 refl)),
  λ over. refl,
)
