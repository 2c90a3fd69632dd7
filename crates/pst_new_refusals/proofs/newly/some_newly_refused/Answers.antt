use Rattle.std.proofs.Common.{◌≡◌, ◌⊎◌, false, subst}
use Rattle.pst_model.specs.ModelView.{view_model}
use Rattle.pst_new_refusals.specs.Newly.{so_far, ArePlainFree, AreInlinesFree, IfNot}
use Rattle.pst_new_refusals.proofs.Stays.{stays_if}
use Rattle.pst_new_refusals.proofs.newly.some_newly_refused.Goals as goal

pub returns : goal.returns
returns c =
    let m = view_model c.args.model.now in
    let nodes = c.args.nodes.now in
    let actions = c.args.actions.now in
    let from = c.args.from in
    let fresh = c.args.fresh.now in
    let inlines = c.args.inlines in
    stays_if m c.args.far.now c.requires.far inlines c.requires.inlines actions from fresh nodes c.in_ok-over.over
    (subst (λ b. IfNot b (ArePlainFree m (so_far nodes actions) from fresh)) c.if-plain.false c.in_ok-plain.ensures)
    (subst (λ b. IfNot b ((inlines ≡ false) ⊎ AreInlinesFree m (so_far nodes actions) from fresh)) c.if-stated.false c.in_ok-stated.ensures)
    c.in_ok-over.ensures
