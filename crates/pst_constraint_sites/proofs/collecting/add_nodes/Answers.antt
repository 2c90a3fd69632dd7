use Rattle.std.proofs.Common.{◌≡◌, ◌++◌, ◌∙◌, map, sym, ap, subst}
use Rattle.std.specs.Prelude.{OnOk, flat_map}
use Rattle.std.specs.List.{enumerate_from}
use Rattle.pst_model.specs.ModelView.{view_model}
use Rattle.pst_constraint_sites.specs.Groups.{compound_groups}
use Rattle.pst_constraint_sites.specs.Views.{view_group}
use Rattle.pst_constraint_sites.proofs.Alone.{fills_alone}
use Rattle.pst_constraint_sites.proofs.collecting.add_nodes.Goals as goal

pub returns : goal.returns
returns c =
    c.in_ok-add_fills.ensures
    ∙ ap (λ gs. map view_group c.args.groups.now.items ++ gs) (sym (fills_alone (view_model c.args.model.now) (sym c.has_inlines.ensures ∙ c.if-has_inlines.false) c.args.nodes.now (enumerate_from 0 c.args.nodes.now)))
