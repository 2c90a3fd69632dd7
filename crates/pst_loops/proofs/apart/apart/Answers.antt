use Rattle.std.proofs.Common.{◌∙◌, sym, subst, List, ℕ}
use Rattle.pst_loops.specs.Apart.{NeverFalls}
use Rattle.pst_loops.proofs.Rising.{apart_ok}
use Rattle.pst_loops.proofs.apart.apart.Goals as goal

pub returns : goal.returns
returns c =
    let never : NeverFalls c.args.edges.now c.deref-2.result.now =
    subst (λ (x : List ℕ). NeverFalls c.args.edges.now x) (c.deref.ensures.value ∙ sym c.deref-2.ensures.value) (c.never_falls.ensures c.if-not-never_falls.false) in
    apart_ok c.args.edges.now c.deref-2.result.now c.rising.result never c.rising.ensures
