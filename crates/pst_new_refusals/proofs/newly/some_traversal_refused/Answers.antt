use Rattle.std.proofs.Common.{◌≡◌, ◌∙◌, ◌&&◌, length, false, not, Some, sym, ap, subst, arith, refl}
use Rattle.std.specs.Prelude.{slice_get}
use Rattle.std.specs.List.{list_any}
use Rattle.std.proofs.lemmas.Option.{slice_get_read}
use Rattle.pst_model.specs.ModelView.{view_model}
use Rattle.pst_scen.specs.declared.tree.Node.{Node}
use Rattle.pst_known.specs.Known.{seen}
use Rattle.pst_slots.specs.Stated.{statement_of}
use Rattle.pst_slots.specs.Listed.{of_stated}
use Rattle.pst_refusals.specs.Answers.{StandEarlier}
use Rattle.pst_refusals.specs.Failing.{fails}
use Rattle.pst_new_refusals.specs.Newly.{is_leaf}
use Rattle.pst_new_refusals.proofs.Nodes.{traversed_none, traversed_more, traversed_all}
use Rattle.pst_new_refusals.proofs.newly.some_traversal_refused.Goals as goal

pub loop-n-init : goal.loop-n-init
loop-n-init c = traversed_none (view_model c.args.scene.now.model.now) (seen c.args.scene.now) c.args.from

pub loop-n-preserved : goal.loop-n-preserved
loop-n-preserved c =
    let m = view_model c.args.scene.now.model.now in
    let s = seen c.args.scene.now in
    let x = c.index-nodes-n.result in
    let at : slice_get c.args.nodes.now c.loop-n.n ≡ Some x = slice_get_read c.args.nodes.now (length c.args.nodes.now) c.loop-n.n x refl (omega arith) c.index-nodes-n.is in
    let b = c.in_ok-is_traversal_refused.field-0 in
    traversed_more m s c.args.from c.loop-n.n x b (sym (ap (λ ns. slice_get ns c.loop-n.n) c.requires.nodes) ∙ at) c.if-branch.false
    (subst (λ (y : Node). StandEarlier s.nodes → b ≡ (not (is_leaf y.fill) && list_any (fails false) (of_stated m s c.loop-n.n (statement_of m s.nodes c.loop-n.n)))) (sym c.index-nodes-n.is) c.in_ok-is_traversal_refused.ensures) c.loop-n.invariant

pub returns : goal.returns
returns c = traversed_all (view_model c.args.scene.now.model.now) (seen c.args.scene.now) c.args.from c.loop-n.n (length c.args.nodes.now) (omega arith) c.loop-n.invariant
