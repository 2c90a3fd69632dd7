use Rattle.std.proofs.Common.{◌≡◌, List, length, refl, sym, ◌∙◌, subst}
use Rattle.pst_scen.specs.declared.tree.Node.{Node}
use Rattle.pst_scen.specs.Laws.{IsPreorder, HasOneLeafEach}
use Rattle.pst_claim_counts.specs.Needs.{AreNeeds, IsBelow, AreLeafSlots}
use Rattle.pst_claim_counts.proofs.Below.{leaves_below}
use Rattle.pst_claim_counts.proofs.More.{leaves_meet, below_exceeds}
use Rattle.pst_claim_counts.proofs.counting.is_short_below.Goals as goal

pub returns : goal.returns
returns c = λ yes.
    let s = c.args.scenario.now in
    let nodes = c.as_slice-nodes.result.now in
    let is : nodes ≡ s.nodes = c.as_slice-nodes.ensures in
    let claims = c.args.claims.now in
    let pool = c.args.pool in
    let leaves = subst (λ (ns : List Node). AreLeafSlots ns c.args.leaves.now) (sym is) c.requires.leaves in
    let own = c.in_ok-needs.ensures.own s (leaves_meet s c.args.leaves.now c.requires.leaves) in
    let below = leaves_below nodes claims pool s c.args.leaves.now c.in_ok-needs.needs.items leaves own in
    let all = c.raise_all.ensures.raised s claims pool (sym is) below in
    below_exceeds s nodes claims pool c.args.size c.in-Some._slot c.deref.result.now (subst (AreNeeds s (IsBelow nodes claims pool 0)) (sym c.deref.ensures.value) all) c.in-Some.ensures.0 c.in-Some.ensures.1
