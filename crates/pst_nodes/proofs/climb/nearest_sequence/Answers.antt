use Rattle.std.proofs.Common.{◌<◌, ◌↔◌, ℕ, refl, arith}
use Rattle.pst_scen.specs.Tree.{IsNearestSequence, Directly}
use Rattle.pst_nodes.proofs.Climbs.{not_true, child_read, rootless, parent_less, nearest_up, nearest_root}
use Rattle.pst_nodes.proofs.climb.nearest_sequence.Goals as goal

pub returns-then-is_sequence : goal.returns-then-is_sequence
returns-then-is_sequence c =
    let child = child_read c.args.nodes.now c.parents.at c.in-Some.parent _ c.parents.invariant.within c.in-Some.is in
    (c.parents.invariant.same c.in-Some.parent).0 (Directly c.parents.at child (c.if-is_sequence.ensures.0 refl))

pub parents-smaller : goal.parents-smaller
parents-smaller c = parent_less c.args.nodes.now c.parents.at c.in-Some.parent c.requires.preorder (child_read c.args.nodes.now c.parents.at c.in-Some.parent _ c.parents.invariant.within c.in-Some.is)

pub parents-preserved : goal.parents-preserved
parents-preserved c =
    let child = child_read c.args.nodes.now c.parents.at c.in-Some.parent _ c.parents.invariant.within c.in-Some.is in
    let less : c.in-Some.parent < c.parents.at = parent_less c.args.nodes.now c.parents.at c.in-Some.parent c.requires.preorder child in
    let within = c.parents.invariant.within in
    let step : (top : ℕ) → IsNearestSequence c.args.nodes.now top c.in-Some.parent ↔ IsNearestSequence c.args.nodes.now top c.parents.at =
    λ top. nearest_up c.args.nodes.now c.parents.at c.in-Some.parent top child (λ s. not_true (c.if-is_sequence.ensures.1 s)) in
    record {
      within = omega (arith, less, within);
      same = λ top. (λ near. (c.parents.invariant.same top).0 ((step top).0 near), λ near. (step top).1 ((c.parents.invariant.same top).1 near));
    }

pub returns : goal.returns
returns c = λ top near.
    nearest_root c.args.nodes.now c.parents.at top (λ p. rootless c.args.nodes.now c.parents.at p _ c.parents.invariant.within c.in_default.is) ((c.parents.invariant.same top).1 near)
