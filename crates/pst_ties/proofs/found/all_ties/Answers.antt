use Rattle.std.proofs.Common.{◌∙◌, ◌++◌, refl, ap, map, arith}
use Rattle.std.specs.Prelude.{flat_map, option_to_list}
use Rattle.pst_model.specs.ModelView.{view_model}
use Rattle.pst_legal.specs.Binds.{bound_by, ties_at}
use Rattle.pst_ties.specs.Tieds.{bound_of, bounds_from}
use Rattle.pst_ties.proofs.Rows.{walk_on}
use Rattle.pst_ties.proofs.found.all_ties.Goals as goal

pub loop-top-preserved : goal.loop-top-preserved
loop-top-preserved c =
    let m = view_model c.args.model.now in
    let nodes = c.args.nodes.now in
    let i = c.loop-top.top in
    let out = map bound_of c.loop-top.found.items in
    walk_on (bounds_from m nodes) (λ k. flat_map (λ tie. option_to_list (bound_by m nodes k tie)) (ties_at m nodes k)) (λ k x xs. refl) nodes i (omega arith) out (map bound_of c.add_ties.new.found.items) _
    (c.in_ok-add_ties.ensures ∙ ap (λ ties. out ++ flat_map (λ tie. option_to_list (bound_by m nodes i tie)) ties) c.ties_at-ties.ensures)
    c.loop-top.invariant
