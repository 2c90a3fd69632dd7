-- The first names of paths are those of the uses, one after another.
use Rattle.std.proofs.Common.{◌≡◌, ◌++◌, List, [], ◌∷◌, refl, sym, ap, ◌∙◌, Option}
use Rattle.std.specs.Prelude.{Some, None}
use Rattle.std.specs.Option.{option_to_list}
use Rattle.std.specs.List.{fold, filter_map, cons_option}
use Rattle.std.proofs.lemmas.List.{append-nil, append_assoc}
use Rattle.pst_ast.specs.ExpressionTree.{ExprTree}
use Rattle.pst_ast.specs.declared.leaf.Name.{Name}
use Rattle.pst_ast.specs.declared.environment.Environment.{Environment}
use Rattle.pst_ast.specs.Uses.{Use, expr_uses}
use Rattle.pst_type_rules.specs.Handles.{first_of_path, first_names}
use Rattle.pst_handle_uses.specs.Firsts.{with_first}

joined : (o : Option Name) (names : List Name) → option_to_list o ++ names ≡ cons_option o names
joined None names = refl
joined (Some x) names = refl

gathered : (us : List Use) (names : List Name) → fold with_first names us ≡ names ++ filter_map first_of_path us
gathered [] names = sym (append-nil names)
gathered (u ∷ us) names =
    gathered us (names ++ option_to_list (first_of_path u))
    ∙ append_assoc names (option_to_list (first_of_path u)) (filter_map first_of_path us)
    ∙ ap (λ (ns : List Name). names ++ ns) (joined (first_of_path u) (filter_map first_of_path us))

pub firsts_of : (at : Environment) (expr : ExprTree) → fold with_first [] (expr_uses at expr) ≡ first_names at expr
firsts_of at expr = gathered (expr_uses at expr) []
