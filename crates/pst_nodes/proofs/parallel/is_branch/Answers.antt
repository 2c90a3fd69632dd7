use Rattle.std.proofs.Common.{ℕ, subst}
use Rattle.pst_nodes.specs.Over.{IsParallelBlock}
use Rattle.pst_nodes.proofs.Climbs.{child_read, one_parent, not_true, rootless}
use Rattle.pst_nodes.proofs.parallel.is_branch.Goals as goal

pub returns-in_default : goal.returns-in_default
returns-in_default c = (
  λ t. absurd (not_true t),
  λ h. absurd (rootless c.args.nodes.now c.args.n h.block _ c.requires.within c.in_default.is h.is_child),
)

pub returns : goal.returns
returns c =
    let child = child_read c.args.nodes.now c.args.n c.in-Some.block _ c.requires.within c.in-Some.is in (
      λ t. record { block = c.in-Some.block; is_block = c.is_block.ensures.0 t; is_child = child },
      λ h. c.is_block.ensures.1 (subst (λ (b : ℕ). IsParallelBlock c.args.nodes.now b) (one_parent c.args.nodes.now c.args.n h.block c.in-Some.block h.is_child child) h.is_block),
    )
