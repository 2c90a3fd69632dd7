use Rattle.std.proofs.Common.{◌≡◌, ℕ, ◌+◌, ◌<◌, List, length, subst, sym, arith}
use Rattle.pst_scen.specs.Tree.{IsChild}
use Rattle.pst_claim_counts.specs.declared.needs.Need.{Need}
use Rattle.pst_claim_counts.specs.Needs.{AreNeeds, IsBelow}
use Rattle.pst_claim_counts.proofs.Children.{child_read}
use Rattle.pst_claim_counts.proofs.Below.{all_earlier, all_raised}
use Rattle.pst_claim_counts.proofs.nodes.raise.Goals as goal

pub returns-in_default-clause-raised : goal.returns-in_default-clause-raised
returns-in_default-clause-raised c = λ s claims pool same all. all_earlier c.args.nodes.now claims pool s c.args.n c.args.needs.now.items all

pub raised-need-requires-clause-child : goal.raised-need-requires-clause-child
raised-need-requires-clause-child c = child_read c.args.nodes.now c.args.n c.in-Some.parent _ c.requires.n_in c.in-Some.is

pub put-requires : goal.put-requires
put-requires c =
    let child = child_read c.args.nodes.now c.args.n c.in-Some.parent _ c.requires.n_in c.in-Some.is in
    let less : c.in-Some.parent < c.args.n = c.requires.preorder.parents c.args.n c.in-Some.parent child.node child.is child.in_parent in
    let n_in = c.requires.n_in in
    let many = c.requires.many in
    omega (arith, less, n_in, many)

pub returns-clause-raised : goal.returns-clause-raised
returns-clause-raised c = λ s claims pool same all.
    let child = child_read c.args.nodes.now c.args.n c.in-Some.parent _ c.requires.n_in c.in-Some.is in
    let old = c.args.needs.now.items in
    let read : AreNeeds s (IsBelow c.args.nodes.now claims pool (c.args.n + 1)) c.as_slice.result.now = subst (AreNeeds s (IsBelow c.args.nodes.now claims pool (c.args.n + 1))) (sym c.as_slice.ensures.value) all in
    all_raised c.args.nodes.now claims pool s same c.args.n c.in-Some.parent child old c.put.new.needs.items c.raised-need.result c.put.ensures.many c.put.ensures.at c.put.ensures.others (c.raised-need.ensures s claims pool same read) all
