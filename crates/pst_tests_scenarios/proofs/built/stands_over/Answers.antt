use Rattle.std.proofs.Common.{◌<◌, arith}
use Rattle.pst_scen.specs.Tree.{AtTop, Below}
use Rattle.pst_tests_scenarios.proofs.Parents.{child_read, parent_less, under_up}
use Rattle.pst_tests_scenarios.proofs.built.stands_over.Goals as goal

pub parents-init : goal.parents-init
parents-init c = record { within = c.requires.within; under = AtTop }

pub parents-smaller : goal.parents-smaller
parents-smaller c = parent_less c.args.nodes.now c.parents.at c.in-Some.parent c.requires.preorder (child_read c.args.nodes.now c.parents.at c.in-Some.parent _ c.parents.invariant.within c.in-Some.is)

pub parents-preserved : goal.parents-preserved
parents-preserved c =
    let child = child_read c.args.nodes.now c.parents.at c.in-Some.parent _ c.parents.invariant.within c.in-Some.is in
    let less : c.in-Some.parent < c.parents.at = parent_less c.args.nodes.now c.parents.at c.in-Some.parent c.requires.preorder child in
    let within = c.parents.invariant.within in
    record {
      within = omega (arith, less, within);
      under = under_up c.args.nodes.now c.in-Some.parent c.parents.at c.args.n (Below c.parents.at c.in-Some.parent AtTop child) c.parents.invariant.under;
    }
