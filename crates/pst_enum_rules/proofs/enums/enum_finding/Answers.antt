use Rattle.std.proofs.Common.{◌∷◌, map, ap, ◌∙◌, List, None, false}
use Rattle.std.specs.HashSet.{contains}
use Rattle.std.specs.List.{list_any}
use Rattle.std.specs.Ordering.{int_eq}
use Rattle.std.proofs.lemmas.Result.{IfOk-weaker}
use Rattle.std.specs.Prelude.{ℤ}
use Rattle.pst_ast.specs.DeclarationView.{view_enum_item, view_next_enum_item}
use Rattle.pst_ast.specs.declared.declaration.NextEnumItem.{NextEnumItem}
use Rattle.pst_ast.specs.Declarations.{next_item}
use Rattle.pst_evaluate.specs.Kept.{known_in}
use Rattle.pst_enum_rules.specs.Enums.{least_of_items}
use Rattle.pst_enum_rules.proofs.SameSeen.{one_item, same_seen}
use Rattle.pst_enum_rules.proofs.enums.enum_finding.Goals as goal

pub returns : goal.returns
returns c =
    let known = known_in c.args.values.now in
    let first = view_enum_item c.args.node.now.first in
    let rest = map next_item (map view_next_enum_item c.args.node.now.rest.items) in
    let start = contains int_eq c.new-seen.result in
    IfOk-weaker c.see_next_items.result _ _
    (λ found is.
    is ∙ (ap (λ (ns : List NextEnumItem). least_of_items known (contains int_eq c.see_item.new.seen) c.in_ok-least.least (map next_item (map view_next_enum_item ns))) c.as_slice.ensures.value
    ∙ (one_item known start (contains int_eq c.see_item.new.seen) None c.in_ok-least.least first rest c.in_ok-least.ensures.after c.in_ok-least.ensures.least
    ∙ same_seen known start (λ v. false) None (first ∷ rest) (λ v. ap (λ (ks : List ℤ). list_any (int_eq v) ks) c.new-seen.ensures.empty))))
    c.see_next_items.ensures
