use Rattle.std.proofs.Common.{List, length, subst}
use Rattle.pst_scen.specs.declared.act.Claimed.{Claimed}
use Rattle.pst_scen.specs.declared.act.Filled.{Filled}
use Rattle.pst_graph.specs.Uses.{IsUseOfClaims, IsUseOfReferences, Lengthens, HasClaims, HasReferences}
use Rattle.pst_graph.proofs.UsesListed.{uses_more}
use Rattle.pst_graph.proofs.usage.push_uses.Goals as goal

pub returns : goal.returns
returns c =
    let first = c.args.uses.now.items in
    let middle = c.push_claims.new.uses.items in
    let last = c.push_references.new.uses.items in
    let claims = c.in_ok-push_claims.ensures in
    let references = c.in_ok-push_references.ensures in
    uses_more c.args.scenario.now first middle last c.args.a c.act_at-act.result.now c.act_at-act.ensures c.requires.before
    (subst (λ (list : List Claimed). Lengthens first middle (IsUseOfClaims list c.args.a)) c.as_slice.ensures claims.0)
    (subst (λ (list : List Claimed). HasClaims middle list c.args.a (length list)) c.as_slice.ensures claims.1)
    (subst (λ (list : List Filled). Lengthens middle last (IsUseOfReferences list c.args.a)) c.as_slice-2.ensures references.0)
    (subst (λ (list : List Filled). HasReferences last list c.args.a (length list)) c.as_slice-2.ensures references.1)
