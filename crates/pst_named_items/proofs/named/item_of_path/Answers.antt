use Rattle.std.proofs.Common.{arith, rules, ◌≡◌, Option, IfOk, sym, ap, subst, ◌∙◌}
use Rattle.std.proofs.lemmas.Grind.{common_steps}
use Rattle.pst_ast.specs.declared.expression.PathNode.{PathNode}
use Rattle.pst_ast.specs.ExpressionView.{view_path}
use Rattle.pst_ast.specs.declared.scope_declaration.Declaration.{Declaration}
use Rattle.pst_type_rules.specs.Constants.{item_of_path}
use Rattle.pst_named_items.proofs.Names.{dotted_names}
use Rattle.pst_named_items.proofs.named.item_of_path.Goals as goal

pub returns-in_ok-parts-in-Dotted : goal.returns-in_ok-parts-in-Dotted
returns-in_ok-parts-in-Dotted c =
    subst (λ (found : Option Declaration). IfOk c.item_read.result (λ r. r ≡ found))
    (sym (ap (λ (p : PathNode). item_of_path c.args.index.now c.args.names.now c.args.at.now (view_path p)) c.in-Dotted.is ∙ dotted_names c.args.index.now c.args.names.now c.args.at.now c.in-Dotted.first c.in-Dotted.rest))
    (grind (arith, common_steps))
