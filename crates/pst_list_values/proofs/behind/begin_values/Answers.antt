use Rattle.std.proofs.Common.{◌++◌, length, map, sym, subst}
use Rattle.pst_expr.specs.Tree.{view}
use Rattle.pst_domain.specs.Bounds.{AreUpright}
use Rattle.pst_narrow.specs.Narrowing.{HaveVariablesBelow}
use Rattle.pst_model.specs.ModelView.{view_model}
use Rattle.pst_few_places.specs.Fillings.{all_blanks}
use Rattle.pst_value_search.specs.Values.{Begins}
use Rattle.pst_list_values.proofs.Ties.{bounds_count, both_implied, both_below, both_open, begun_written}
use Rattle.pst_list_values.proofs.behind.begin_values.Goals as goal

pub new-requires-clause-upright : goal.new-requires-clause-upright
new-requires-clause-upright c = subst AreUpright (sym c.new-bounds.ensures) c.in_ok-written.ensures.spans.upright

pub new-requires-clause-variables : goal.new-requires-clause-variables
new-requires-clause-variables c =
    let m = view_model c.args.model.now in
    let w = c.in_ok-written.written in
    let r = c.in_ok-rivals.rivals in
    let n = length (all_blanks m c.args.linked) in
    subst (λ b. HaveVariablesBelow (length b) (map view c.in_ok-all.all.items)) (sym c.new-bounds.ensures)
    (subst (λ n. HaveVariablesBelow n (map view c.in_ok-all.all.items)) (sym (bounds_count m c.args.linked w.spans.items c.in_ok-written.ensures.spans))
    (subst (λ es. HaveVariablesBelow n (map view es)) (sym c.in_ok-all.ensures) (both_below n w.constraints.items r.items c.in_ok-written.ensures.written.variables c.in_ok-rivals.ensures.variables)))

pub returns-clause-begun : goal.returns-clause-begun
returns-clause-begun c =
    let m = view_model c.args.model.now in
    let u = c.args.linked in
    let w = c.in_ok-written.written in
    let r = c.in_ok-rivals.rivals in
    begun_written m u (w.constraints.items ++ r.items) w.spans.items w.whole c.in_ok-valued.valued (both_implied m u w.constraints.items r.items c.in_ok-written.ensures.written c.in_ok-rivals.ensures)
    c.in_ok-written.ensures.spans (λ whole. both_open m u w.constraints.items r.items (c.in_ok-written.ensures.together whole)) c.requires.joins c.requires.earlier
    (subst (λ es. Begins es w.spans.items c.in_ok-valued.valued) c.in_ok-all.ensures (subst (λ b. Begins c.in_ok-all.all.items b c.in_ok-valued.valued) c.new-bounds.ensures c.in_ok-valued.ensures))
