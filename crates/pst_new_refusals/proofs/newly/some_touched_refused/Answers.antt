use Rattle.std.proofs.Common.{◌≡◌, ◌⊎◌, false, subst}
use Rattle.pst_model.specs.ModelView.{view_model}
use Rattle.pst_known.specs.Known.{seen}
use Rattle.pst_new_refusals.specs.Named.{rows}
use Rattle.pst_new_refusals.specs.Newly.{AreFreeAt, AreBehindFree, AreStatedFreeAt, IfNot}
use Rattle.pst_new_refusals.proofs.Nodes.{touched_if}
use Rattle.pst_new_refusals.proofs.newly.some_touched_refused.Goals as goal

pub returns : goal.returns
returns c =
    let m = view_model c.args.scene.now.model.now in
    let s = seen c.args.scene.now in
    let named = rows c.args.named.now in
    let stated = c.in_ok-stated.stated in
    touched_if m s named c.args.inlines c.args.from c.args.fresh.now c.in_ok-list.list.items stated c.in_ok-list.ensures
    (subst (AreBehindFree m s named c.args.from) c.deref.ensures.value (subst (λ b. IfNot b (AreBehindFree m s named c.args.from c.deref.result.now)) c.if-behind.false c.in_ok-behind.ensures))
    (subst (AreFreeAt m s) c.deref-2.ensures.value (subst (λ b. IfNot b (AreFreeAt m s c.deref-2.result.now)) c.if-listed.false c.in_ok-listed.ensures))
    (subst (λ list. IfNot stated ((c.args.inlines ≡ false) ⊎ AreStatedFreeAt m s list)) c.deref-3.ensures.value c.in_ok-stated.ensures)
