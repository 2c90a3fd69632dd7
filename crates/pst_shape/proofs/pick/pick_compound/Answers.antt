use Rattle.std.proofs.Common.{◌≡◌, ◌∙◌, ◌<◌, length, map, ap, refl, arith}
use Rattle.std.proofs.lemmas.Result.{IfOk-weaker}
use Rattle.pst_scen.specs.declared.tree.Fill.TheVariants as fill
use Rattle.pst_model.specs.ModelView.{view_action, view_activity, view_step}
use Rattle.pst_legal.specs.Growing.{Inner}
use Rattle.pst_shape_steps.specs.declared.pending.Fields.{Fields}
use Rattle.pst_shape_parts.specs.Trees.{tree_of, grown_by}
use Rattle.pst_shape_steps.proofs.Levels.{added_true, compound_open, compound_read}
use Rattle.pst_shape.proofs.pick.pick_compound.Goals as goal

pub returns-clause-reads : goal.returns-clause-reads
returns-clause-reads c =
    let t = tree_of c.args.grown.now in
    let u = tree_of c.add.new.self in
    let some : 0 < c.args.levels = omega arith in
    let eu = added_true c.in_ok-add.field-0 _ _ c.in_ok-add.ensures.added c.if-not-branch.false in
    let en : c.len-node.result ≡ length t.nodes = c.len-node.ensures ∙ c.args.grown.now.nodes.ok.0 in
    let f : Fields = record { node = c.len-node.result; instance = c.args.instance; fields = c.as_slice.result; steps = c.as_slice-2.result } in
    IfOk-weaker c.with_fields.result _ _ (λ at h m. compound_read m c.args.levels c.args.parent (view_action c.args.kind.now) (view_activity c.args.activity.now) c.args.action c.args.instance t u f c.new.result.items c.args.below.value at some
    (eu ∙ ap (λ xs. grown_by t c.args.parent (Inner (fill.Compound c.args.action c.args.instance xs))) c.empty.ensures) c.add.ensures.grown en c.as_slice.ensures.value (ap (map view_step) c.as_slice-2.ensures.value) refl c.new.ensures.items (h m)) c.with_fields.ensures.reads

pub returns-clause-opens : goal.returns-clause-opens
returns-clause-opens c =
    let t = tree_of c.args.grown.now in
    let u = tree_of c.add.new.self in
    let eu = added_true c.in_ok-add.field-0 _ _ c.in_ok-add.ensures.added c.if-not-branch.false in
    let en : c.len-node.result ≡ length t.nodes = c.len-node.ensures ∙ c.args.grown.now.nodes.ok.0 in
    IfOk-weaker c.with_fields.result _ _ (λ at h. h u (compound_open t u c.args.parent c.args.action c.args.instance c.len-node.result
    (eu ∙ ap (λ xs. grown_by t c.args.parent (Inner (fill.Compound c.args.action c.args.instance xs))) c.empty.ensures) en)) c.with_fields.ensures.opens
