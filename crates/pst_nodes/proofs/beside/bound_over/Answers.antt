use Rattle.std.proofs.Common.{◌<◌, inl, arith}
use Rattle.pst_nodes.proofs.Climbs.{child_read, rootless, parent_less}
use Rattle.pst_nodes.proofs.BesideRange.{rest_on, rest_done}
use Rattle.pst_nodes.proofs.beside.bound_over.Goals as goal

pub parents-init : goal.parents-init
parents-init c = record { within = c.requires.leaf_in; lower = omega arith; rest = λ b b_in has over. inl over }

pub parents-preserved : goal.parents-preserved
parents-preserved c =
    let nodes = c.args.nodes.now in
    let child = child_read nodes c.parents.at c.in-Some.parent _ c.parents.invariant.within c.in-Some.is in
    let less : c.in-Some.parent < c.parents.at = parent_less nodes c.parents.at c.in-Some.parent c.requires.numbered.parents child in
    let within = c.parents.invariant.within in
    let lower = c.bound_at-least.ensures.lower in
    let before = c.parents.invariant.lower in
    record {
      within = omega (arith, less, within);
      lower = omega (arith, lower, before);
      rest = rest_on nodes c.args.rows.now c.args.a c.args.leaf c.parents.at c.in-Some.parent c.parents.least c.bound_at-least.result child lower c.bound_at-least.ensures.bounds c.parents.invariant.rest;
    }

pub returns-clause-bounds : goal.returns-clause-bounds
returns-clause-bounds c =
    rest_done c.args.nodes.now c.args.rows.now c.args.a c.args.leaf c.parents.at c.parents.least (λ p. rootless c.args.nodes.now c.parents.at p _ c.parents.invariant.within c.in_default.is) c.parents.invariant.rest
