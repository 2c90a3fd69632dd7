use Rattle.std.proofs.Common.{arith, ◌≡◌, List, Option, length, map, sym, subst, ap, ◌∙◌}
use Rattle.std.specs.Prelude.{ℤ}
use Rattle.std.proofs.lemmas.Grind.{common_steps}
use Rattle.std.proofs.lemmas.List.{with_items_is}
use Rattle.pst_ast.specs.DeclarationView.{view_unit}
use Rattle.pst_evaluate.specs.Known.{known_by}
use Rattle.pst_evaluate.specs.Settled.{AreItemValues}
use Rattle.pst_evaluate.proofs.items.item_values.Goals as goal

pub returns : goal.returns
returns c =
    let long : length c.settle_all.new.values ≡ c.in_ok-values.values.len = grind (arith, common_steps) in
    subst (λ (vs : List (Option ℤ)). AreItemValues (map view_unit c.args.units.now) c.args.names.now (known_by c.in_ok-places.places vs))
    (sym (with_items_is c.in_ok-values.values c.settle_all.new.values long)) c.in_ok-settle_all.ensures
