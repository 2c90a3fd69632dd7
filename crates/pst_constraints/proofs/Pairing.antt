-- The pairs of a `unique`.
use Rattle.std.proofs.Common.{◌≡◌, List, [], ◌∷◌, ◌++◌, refl, sym, ap, ◌∙◌, map, append_assoc}
use Rattle.std.proofs.lemmas.List.{map-append}
use Rattle.pst_expr.specs.declared.tree.BinaryOp.TheVariants.{NotEqual}
use Rattle.pst_model.specs.ConstraintTree.{ConstraintTree, SlotTree}
use Rattle.pst_terms.specs.Terms.{Term, Infix}
use Rattle.pst_elab_rules.specs.Constraints.{pairs}

-- an item and those behind it, then the others
pub pair_more : (made : Term SlotTree → ConstraintTree) (old new total : List ConstraintTree) (x : Term SlotTree) (more : List (Term SlotTree)) → new ≡ old ++ map made (map (Infix NotEqual x) more)
    → old ++ map made (pairs (x ∷ more)) ≡ total → new ++ map made (pairs more) ≡ total
pair_more made old new total x more is e =
    ap (λ (xs : List ConstraintTree). xs ++ map made (pairs more)) is
    ∙ append_assoc old (map made (map (Infix NotEqual x) more)) (map made (pairs more))
    ∙ ap (λ (xs : List ConstraintTree). old ++ xs) (sym (map-append made (map (Infix NotEqual x) more) (pairs more)))
    ∙ e
