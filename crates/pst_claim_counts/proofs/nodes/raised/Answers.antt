use Rattle.std.proofs.Common.{◌≡◌, ◌⊎◌, ◌+◌, ◌<◌, ◌≤◌, ℕ, List, length, get_or, sym, subst, arith}
use Rattle.pst_scen.specs.declared.scenario.Scenario.{Scenario}
use Rattle.pst_claim_rivals.specs.declared.claims.OpenClaim.{OpenClaim}
use Rattle.pst_claim_counts.specs.declared.needs.Need.{Need}
use Rattle.pst_claim_counts.specs.Needs.{IsNeed, no_need, AreNeeds, IsBelow}
use Rattle.pst_claim_counts.proofs.Below.{raised_parallel, raised_other}
use Rattle.pst_claim_counts.proofs.nodes.raised.Goals as goal

-- the need of a node, as it is read
read : (s : Scenario) (P : ℕ → OpenClaim → Type 0) (needs : List Need) (n : ℕ) (need : Need) → AreNeeds s P needs → n < length needs → need ≡ get_or needs n no_need → IsNeed s (P n) need
read s P needs n need all l e = subst (IsNeed s (P n)) (sym e) (all n l)

pub returns-then-is_block : goal.returns-then-is_block
returns-then-is_block c = λ s claims pool same all.
    let nodes = c.args.nodes.now in
    let n = c.args.n in
    let p = c.args.parent in
    let child = c.requires.child in
    let many = c.requires.many in
    let n_in = c.requires.n_in in
    let p_in : p < n = c.requires.preorder.parents n p child.node child.is child.in_parent in
    raised_parallel nodes claims pool s same n p child c.requires.preorder c.requires.one_leaf (c.is_block.ensures.0 c.if-is_block.true) c.need_at-one.result c.need_at-other.result c.joined.result
    (read s (IsBelow nodes claims pool (n + 1)) c.args.needs.now p c.need_at-one.result all (omega (arith, p_in, n_in, many)) c.need_at-one.ensures)
    (read s (IsBelow nodes claims pool (n + 1)) c.args.needs.now n c.need_at-other.result all (omega (arith, n_in, many)) c.need_at-other.ensures)
    c.joined.ensures.locks c.joined.ensures.all

pub returns : goal.returns
returns c = λ s claims pool same all.
    let nodes = c.args.nodes.now in
    let n = c.args.n in
    let p = c.args.parent in
    let child = c.requires.child in
    let many = c.requires.many in
    let n_in = c.requires.n_in in
    let p_in : p < n = c.requires.preorder.parents n p child.node child.is child.in_parent in
    raised_other nodes claims pool s same n p child c.need_at-one.result c.need_at-other.result c.greater.result
    (read s (IsBelow nodes claims pool (n + 1)) c.args.needs.now p c.need_at-one.result all (omega (arith, p_in, n_in, many)) c.need_at-one.ensures)
    (read s (IsBelow nodes claims pool (n + 1)) c.args.needs.now n c.need_at-other.result all (omega (arith, n_in, many)) c.need_at-other.ensures)
    c.greater.ensures.locks c.greater.ensures.all
