use Rattle.std.proofs.Common.{◌≡◌, ◌+◌, arith, drop, map, sym, ap, ◌∙◌, List, ◌∷◌}
use Rattle.std.specs.HashSet.{contains}
use Rattle.std.specs.Ordering.{int_eq}
use Rattle.std.proofs.lemmas.Grind.{common_steps}
use Rattle.pst_ast.specs.DeclarationView.{view_enum_item, view_next_enum_item}
use Rattle.pst_ast.specs.declared.declaration.NextEnumItem.{NextEnumItem}
use Rattle.pst_ast.specs.Declarations.{next_item}
use Rattle.pst_evaluate.specs.Kept.{known_in}
use Rattle.pst_enum_rules.specs.Enums.{least_of_items}
use Rattle.pst_enum_rules.proofs.SameSeen.{one_item}
use Rattle.pst_enum_rules.proofs.enums.see_next_items.Goals as goal

pub loop-next-preserved : goal.loop-next-preserved
loop-next-preserved c =
    let known = known_in c.args.values.now in
    let rest = map next_item (map view_next_enum_item (drop (c.loop-next.next-index + 1) c.args.items.now)) in
    let behind : drop c.loop-next.next-index c.args.items.now ≡ c.next-item.result ∷ drop (c.loop-next.next-index + 1) c.args.items.now = grind (arith, common_steps) in
    one_item known (contains int_eq c.loop-next.seen) (contains int_eq c.see_item.new.seen) c.loop-next.least c.in_ok-least.least (view_enum_item c.next-item.result.item) rest
    c.in_ok-least.ensures.after c.in_ok-least.ensures.least
    ∙ (ap (λ (ns : List NextEnumItem). least_of_items known (contains int_eq c.loop-next.seen) c.loop-next.least (map next_item (map view_next_enum_item ns))) (sym behind) ∙ c.loop-next.invariant)
