use Rattle.std.proofs.Common.{◌≡◌, ℕ, subst, arith}
use Rattle.pst_nodes.specs.Tables.{AreEndsFrom}
use Rattle.pst_nodes.proofs.Ends.{own_from, all_ends}
use Rattle.pst_nodes.proofs.tables.ends_of.Goals as goal

pub nodes-init : goal.nodes-init
nodes-init c =
    let own = c.in_ok-ends.ensures in
    record { within = omega arith; from = own_from c.args.nodes.now c.in_ok-ends.ends.items own.0 own.1 }

pub returns : goal.returns
returns c =
    let low = c.nodes-test.false in
    let none : c.nodes.n ≡ 0 = omega (arith, low) in
    all_ends c.args.nodes.now c.nodes.ends.items c.requires.numbered.preorder c.requires.numbered.parents
    (subst (λ (n : ℕ). AreEndsFrom c.args.nodes.now c.nodes.ends.items n) none c.nodes.invariant.from)
