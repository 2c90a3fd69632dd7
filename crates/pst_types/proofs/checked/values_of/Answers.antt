use Rattle.std.proofs.Common.{◌≡◌, List, map, sym, subst}
use Rattle.std.specs.Prelude.{IfOk}
use Rattle.pst_ast.specs.DeclarationView.{view_unit}
use Rattle.pst_ast.specs.declared.declaration.Unit.{Unit}
use Rattle.pst_ast.specs.Declarations.{declarations}
use Rattle.pst_evaluate.specs.Kept.{known_in}
use Rattle.pst_evaluate.specs.Settled.{AreItemValues}
use Rattle.pst_types.proofs.checked.values_of.Goals as goal

pub item_values-requires : goal.item_values-requires
item_values-requires c = subst (λ (us : List Unit). c.args.index.now ≡ declarations (map view_unit us)) (sym c.sources.ensures) c.requires

pub returns : goal.returns
returns c = subst (λ (us : List Unit). IfOk c.item_values.result (λ v. AreItemValues (map view_unit us) c.args.names.now (known_in v))) c.sources.ensures c.item_values.ensures
