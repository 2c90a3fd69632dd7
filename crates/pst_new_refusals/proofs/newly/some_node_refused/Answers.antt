use Rattle.std.proofs.Common.{◌≡◌, ◌∙◌, length, false, Some, sym, ap, subst, arith, refl}
use Rattle.std.specs.Prelude.{slice_get}
use Rattle.std.specs.List.{list_any}
use Rattle.std.proofs.lemmas.Option.{slice_get_read}
use Rattle.pst_scen.specs.declared.tree.Node.{Node}
use Rattle.pst_model.specs.ModelView.{view_model}
use Rattle.pst_known.specs.Known.{seen}
use Rattle.pst_slots.specs.Listed.{of_fill}
use Rattle.pst_refusals.specs.Failing.{fails}
use Rattle.pst_new_refusals.proofs.Nodes.{free_none, free_more, free_all}
use Rattle.pst_new_refusals.proofs.newly.some_node_refused.Goals as goal

pub loop-n-init : goal.loop-n-init
loop-n-init c = free_none (view_model c.args.scene.now.model.now) (seen c.args.scene.now) c.args.from

pub loop-n-preserved : goal.loop-n-preserved
loop-n-preserved c =
    let m = view_model c.args.scene.now.model.now in
    let s = seen c.args.scene.now in
    let x = c.index-nodes-n.result in
    let at : slice_get c.args.nodes.now c.loop-n.n ≡ Some x = slice_get_read c.args.nodes.now (length c.args.nodes.now) c.loop-n.n x refl (omega arith) c.index-nodes-n.is in
    free_more m s c.args.from c.loop-n.n x (sym (ap (λ ns. slice_get ns c.loop-n.n) c.requires.nodes) ∙ at) (subst (λ (y : Node). list_any (fails false) (of_fill m s c.loop-n.n y.fill) ≡ false) (sym c.index-nodes-n.is) (sym c.in_ok-is_compound_refused.ensures ∙ c.if-branch.false)) c.loop-n.invariant

pub returns : goal.returns
returns c = free_all (view_model c.args.scene.now.model.now) (seen c.args.scene.now) c.args.from c.loop-n.n (length c.args.nodes.now) (omega arith) c.loop-n.invariant
