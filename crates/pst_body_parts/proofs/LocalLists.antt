-- The locals among what a body declares.
use Rattle.std.proofs.Common.{◌≡◌, ℕ, ◌+◌, ◌<◌, List, ◌++◌, refl, sym, ap, ◌∙◌, map, length, append_assoc}
use Rattle.std.specs.Prelude.{drop, get_or, Option, Some, None}
use Rattle.std.specs.List.{flat_map}
use Rattle.std.proofs.lemmas.List.{drop_more}
use Rattle.std.proofs.lemmas.List.Elements.{filter-append}
use Rattle.pst_base.specs.declared.position.Place.{Place}
use Rattle.pst_ast.specs.declared.shared.LabelNode.{LabelNode}
use Rattle.pst_ast.specs.declared.body.BodyStatement.{BodyStatement}
use Rattle.pst_ast.specs.BodyTree.{BodyStatementTree}
use Rattle.pst_ast.specs.BodyView.{view_body_statement}
use Rattle.pst_ast.specs.declared.scope_declaration.Declaration.{Declaration}
use Rattle.pst_ast.specs.Declarations.{index_of}
use Rattle.pst_type_rules.specs.Limits.{is_local}
use Rattle.pst_type_rules.specs.Members.{those_that}

pub locals_append : (xs ys : List Declaration) → those_that is_local (xs ++ ys) ≡ those_that is_local xs ++ those_that is_local ys
locals_append xs ys = filter-append (λ (d : Declaration). is_local d.sort) xs ys

pub no_index : (owner : Place) (index : Option LabelNode) (rest : List Declaration) → those_that is_local (index_of owner index ++ rest) ≡ those_that is_local rest
no_index owner None rest = refl
no_index owner (Some label) rest = refl

-- one statement after another
pub each_more : (f : BodyStatementTree → List Declaration) (old new total : List Declaration) (items : List BodyStatement) (i : ℕ) (item : BodyStatement) → i < length items → item ≡ get_or items i item
    → new ≡ old ++ those_that is_local (f (view_body_statement item)) → old ++ those_that is_local (flat_map f (map view_body_statement (drop i items))) ≡ total
    → new ++ those_that is_local (flat_map f (map view_body_statement (drop (i + 1) items))) ≡ total
each_more f old new total items i item within at is e =
    let rest = flat_map f (map view_body_statement (drop (i + 1) items)) in
    ap (λ (xs : List Declaration). xs ++ those_that is_local rest) is
    ∙ append_assoc old (those_that is_local (f (view_body_statement item))) (those_that is_local rest)
    ∙ ap (λ (xs : List Declaration). old ++ xs) (sym (locals_append (f (view_body_statement item)) rest))
    ∙ ap (λ (x : BodyStatement). old ++ those_that is_local (f (view_body_statement x) ++ rest)) at
    ∙ ap (λ (xs : List BodyStatement). old ++ those_that is_local (flat_map f (map view_body_statement xs))) (sym (drop_more items i item within))
    ∙ e
