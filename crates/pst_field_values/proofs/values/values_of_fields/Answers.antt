use Rattle.std.proofs.Common.{◌∙◌, map, sym, ap, subst}
use Rattle.pst_expr.specs.Tree.{view}
use Rattle.pst_model.specs.ModelView.{view_model}
use Rattle.pst_known.specs.Known.{seen}
use Rattle.pst_value_search.specs.Values.{Begins}
use Rattle.pst_field_values.specs.Fields.{field_count}
use Rattle.pst_field_values.specs.Kept.{AreFieldsKeptBy, with_values}
use Rattle.pst_field_values.proofs.Valued.{written_below, none_of_fields, given_of_fields}
use Rattle.pst_field_values.proofs.values.values_of_fields.Goals as goal

pub begin-requires : goal.begin-requires
begin-requires c =
    let m = view_model c.args.scene.now.model.now in
    let s = seen c.args.scene.now in
    let w = c.in_ok-written.written in
    written_below m s c.requires c.args.node (field_count m s.nodes c.args.node) (map view w.constraints.items) w.bounds.items c.in_ok-written.ensures

pub returns-in-None : goal.returns-in-None
returns-in-None c =
    let w = c.in_ok-written.written in
    none_of_fields (view_model c.args.scene.now.model.now) (seen c.args.scene.now) c.requires c.args.node w.constraints.items w.bounds.items c.in_ok-written.ensures
    (subst (Begins w.constraints.items w.bounds.items) c.in-None.is c.in_ok-begun.ensures)

pub returns-in_ok-given-in-Some : goal.returns-in_ok-given-in-Some
returns-in_ok-given-in-Some c =
    let m = view_model c.args.scene.now.model.now in
    let s = seen c.args.scene.now in
    let w = c.in_ok-written.written in
    subst (AreFieldsKeptBy m s c.args.node) (sym (c.in_ok-given-in-Some.ensures ∙ ap (with_values c.in-Some.valued) c.values_at.ensures))
    (given_of_fields m s c.requires c.args.node w.constraints.items w.bounds.items c.in_ok-written.ensures c.in-Some.valued
    (subst (Begins w.constraints.items w.bounds.items) c.in-Some.is c.in_ok-begun.ensures))
