use Rattle.std.proofs.Common.{◌<◌, ◌∙◌, arith}
use Rattle.pst_nodes.proofs.Climbs.{child_read, rootless, parent_less}
use Rattle.pst_nodes.proofs.BehindRange.{climbed, at_root}
use Rattle.pst_nodes.proofs.behind.add_row.Goals as goal

pub parents-preserved : goal.parents-preserved
parents-preserved c =
    let child = child_read c.args.nodes.now c.parents.at c.in-Some.parent _ c.parents.invariant.within c.in-Some.is in
    let less : c.in-Some.parent < c.parents.at = parent_less c.args.nodes.now c.parents.at c.in-Some.parent c.requires.numbered.parents child in
    let within = c.parents.invariant.within in
    record {
      within = omega (arith, less, within);
      size = c.add_behind.ensures.sized ∙ c.parents.invariant.size;
      rest = λ last added. c.parents.invariant.rest last (climbed c.args.nodes.now c.args.a c.args.leaf c.parents.square c.add_behind.new.square last c.parents.at c.in-Some.parent child c.add_behind.ensures added);
    }

pub returns : goal.returns
returns c =
    c.parents.invariant.rest c.parents.square
    (at_root c.args.nodes.now c.args.a c.args.leaf c.parents.square c.parents.at (λ p. rootless c.args.nodes.now c.parents.at p _ c.parents.invariant.within c.in_default.is))
