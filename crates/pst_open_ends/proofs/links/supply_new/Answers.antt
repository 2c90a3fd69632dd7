use Rattle.std.proofs.Common.{◌≡◌, ◌∙◌, ◌++◌, ◌∷◌, [], length, min, None, ap, subst}
use Rattle.pst_model.specs.ModelView.{view_model}
use Rattle.pst_legal.specs.Growing.{open_act}
use Rattle.pst_open_ends.specs.Spots.{read_spot}
use Rattle.pst_open_ends.specs.Changes.{Joins}
use Rattle.pst_open_ends.proofs.Supplies.{new_supplied}
use Rattle.pst_open_ends.proofs.links.supply_new.Goals as goal

pub returns-in-Ok-clause-supplied : goal.returns-in-Ok-clause-supplied
returns-in-Ok-clause-supplied c =
    let m = view_model c.args.model.now in
    let need = read_spot c.args.need.now in
    let old = c.args.acts.now.items in
    let x = c.in_ok-act.act in
    let count : c.len-count.result ≡ length old = c.len-count.ensures ∙ c.args.acts.now.ok.0 in
    let fresh : x ≡ open_act m c.args.action c.args.instance None =
    c.in_ok-act.ensures ∙ ap (λ a. open_act m a c.in_ok-narrow-2.field-0 None) c.in_ok-narrow.ensures ∙ ap (λ i. open_act m c.args.action i None) c.in_ok-narrow-2.ensures in
    new_supplied m need c.args.action c.args.instance c.args.reference _ old c.join.new.acts.items x fresh
    (subst (λ n. Joins need n c.args.reference c.in-Ok.ends (old ++ x ∷ []) c.join.new.acts.items) count
    (subst (λ l. Joins need c.len-count.result c.args.reference c.in-Ok.ends l c.join.new.acts.items) c.in_ok-push.ensures.items c.in-Ok.ensures.joined))
    count (c.min.ensures ∙ ap (λ n. min n c.args.need.now.act) count)
