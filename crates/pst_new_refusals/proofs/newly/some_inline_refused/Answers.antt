use Rattle.std.proofs.Common.{ap, length, subst}
use Rattle.pst_model.specs.ModelView.{view_model}
use Rattle.pst_known.specs.Known.{seen}
use Rattle.pst_new_refusals.specs.Newly.{AreTraversedFree, IfNot}
use Rattle.pst_new_refusals.proofs.Nodes.{inlines_if}
use Rattle.pst_new_refusals.proofs.newly.some_inline_refused.Goals as goal

pub returns : goal.returns
returns c =
    let m = view_model c.args.scene.now.model.now in
    let s = seen c.args.scene.now in
    inlines_if m s c.args.from c.args.fresh.now c.in_ok-own.own
    (subst (λ n. AreTraversedFree m s c.args.from n) (ap length c.requires.nodes) (subst (λ b. IfNot b (AreTraversedFree m s c.args.from (length c.args.nodes.now))) c.if-traversed.false c.in_ok-traversed.ensures)) c.in_ok-own.ensures
