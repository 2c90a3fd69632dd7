use Rattle.std.proofs.Common.{◌≡◌, ◌<◌, ℕ, subst, arith}
use Rattle.std.proofs.lemmas.Bool.Decides.{nat_tests}
use Rattle.pst_scen.specs.Tree.{IsChild, AtTop, Below}
use Rattle.pst_nodes.proofs.Climbs.{child_read, rootless, parent_less, under_up, child_up, child_root}
use Rattle.pst_nodes.proofs.climb.child_over.Goals as goal

pub parents-init : goal.parents-init
parents-init c = record { within = c.requires.within; under = AtTop; none = λ child of_top under. under }

pub returns-then-parent-top : goal.returns-then-parent-top
returns-then-parent-top c =
    let child = child_read c.args.nodes.now c.parents.at c.in-Some.parent _ c.parents.invariant.within c.in-Some.is in
    let same : c.in-Some.parent ≡ c.args.top = grind (arith, nat_tests, c.if-parent-top.true) in
    (subst (λ (top : ℕ). IsChild c.args.nodes.now c.parents.at top) same child, c.parents.invariant.under)

pub parents-smaller : goal.parents-smaller
parents-smaller c = parent_less c.args.nodes.now c.parents.at c.in-Some.parent c.requires.preorder (child_read c.args.nodes.now c.parents.at c.in-Some.parent _ c.parents.invariant.within c.in-Some.is)

pub parents-preserved : goal.parents-preserved
parents-preserved c =
    let child = child_read c.args.nodes.now c.parents.at c.in-Some.parent _ c.parents.invariant.within c.in-Some.is in
    let less : c.in-Some.parent < c.parents.at = parent_less c.args.nodes.now c.parents.at c.in-Some.parent c.requires.preorder child in
    let within = c.parents.invariant.within in
    record {
      within = omega (arith, less, within);
      under = under_up c.args.nodes.now c.in-Some.parent c.parents.at c.args.n (Below c.parents.at c.in-Some.parent AtTop child) c.parents.invariant.under;
      none = λ other of_top under. child_up c.args.nodes.now c.parents.at c.in-Some.parent other c.args.top child (λ (same : c.in-Some.parent ≡ c.args.top). grind (arith, nat_tests, c.if-parent-top.false)) of_top (c.parents.invariant.none other of_top under);
    }

pub returns : goal.returns
returns c = λ child of_top under.
    child_root c.args.nodes.now c.parents.at child c.args.top (λ p. rootless c.args.nodes.now c.parents.at p _ c.parents.invariant.within c.in_default.is) of_top (c.parents.invariant.none child of_top under)
