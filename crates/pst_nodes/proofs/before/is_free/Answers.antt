use Rattle.std.proofs.Common.{ℕ, refl, subst, arith}
use Rattle.pst_scen.specs.Tree.{IsNearestSequence, branch_of}
use Rattle.pst_nodes.specs.Over.{LeavesOut}
use Rattle.pst_nodes.proofs.Bits.{no_true}
use Rattle.pst_nodes.proofs.Climbs.{one_parent, child_read, parent_less}
use Rattle.pst_nodes.proofs.before.is_free.Goals as goal

pub returns-then-not-leaves_out : goal.returns-then-not-leaves_out
returns-then-not-leaves_out c =
    let child = child_read c.args.nodes.now c.args.n c.in-Some.block _ c.requires.within c.in-Some.is in (
      λ t. absurd (no_true t),
      λ free.
          let same = one_parent c.args.nodes.now c.args.n free.block c.in-Some.block free.child child in
          absurd (no_true (c.if-not-leaves_out.ensures.1 (subst (λ (b : ℕ). LeavesOut c.args.nodes.now b (branch_of c.args.nodes.now b c.args.n)) same free.left))),
    )

pub is_nearest-requires-clause-within : goal.is_nearest-requires-clause-within
is_nearest-requires-clause-within c =
    let child = child_read c.args.nodes.now c.args.n c.in-Some.block _ c.requires.within c.in-Some.is in
    let less = parent_less c.args.nodes.now c.args.n c.in-Some.block c.requires.preorder child in
    let within = c.requires.within in
    omega (arith, less, within)

pub returns : goal.returns
returns c =
    let child = child_read c.args.nodes.now c.args.n c.in-Some.block _ c.requires.within c.in-Some.is in (
      λ t. record { block = c.in-Some.block; child = child; left = c.if-not-leaves_out.ensures.0 refl; nearest = c.is_nearest.ensures.0 t },
      λ free. c.is_nearest.ensures.1 (subst (λ (b : ℕ). IsNearestSequence c.args.nodes.now c.args.sequence b) (one_parent c.args.nodes.now c.args.n free.block c.in-Some.block free.child child) free.nearest),
    )
