-- The value of an expression by those of items is its value as a constant.
use Rattle.std.proofs.Common.{◌≡◌, ◌↔◌, ℕ, zero, suc, ◌<◌, refl, sym, subst, ap, ◌∙◌, arith, List, [], ◌∷◌, length, Bool, true, false, ◌&&◌, true≢false}
use Rattle.std.specs.Prelude.{ℤ, Option, Some, None, IsSome, is_some, Contains, if◌then◌else◌}
use Rattle.std.specs.List.{fold}
use Rattle.pst_base.specs.declared.position.Place.{Place}
use Rattle.pst_ast.specs.ExpressionTree.{ExprTree}
use Rattle.pst_ast.specs.DeclarationTree.{UnitTree}
use Rattle.pst_ast.specs.declared.scope_declaration.Declaration.{Declaration}
use Rattle.pst_ast.specs.declared.environment.Environment.{Environment}
use Rattle.pst_ast.specs.Declarations.{declarations}
use Rattle.pst_ast.specs.Uses.{Use, expr_uses}
use Rattle.pst_type_rules.specs.Constants.{IsConstant, HasValue, item_of_use, value_by}
use Rattle.pst_evaluate.specs.Kept.{constant_by}
use Rattle.pst_evaluate.specs.Laws.{ConstantsAreFound}
use Rattle.pst_named_items.specs.Named.{Named, named, are_items}
use Rattle.pst_evaluate.specs.Settled.{AreItemValues}
use Rattle.pst_evaluate.proofs.Growing.{to_grow, from_grow, by_grows}
use Rattle.pst_evaluate.proofs.Numbered.{none_is_some}

first_is : (a b : Bool) → (a && b) ≡ true → a ≡ true
first_is true b e = refl
first_is false b e = absurd (true≢false (sym e))

second_is : (a b : Bool) → (a && b) ≡ true → b ≡ true
second_is true b e = e
second_is false b e = absurd (true≢false (sym e))

both_are : (a b : Bool) → a ≡ true → b ≡ true → (a && b) ≡ true
both_are true b p q = q
both_are false b p q = absurd (true≢false (sym p))

-- where all are items, those before were
only_before : (us : List Use) (k : Named) → (fold named k us).only ≡ true → k.only ≡ true
only_before [] k e = e
only_before (u ∷ us) k e = second_is (is_some (item_of_use k.ds k.names u)) k.only (only_before us (named k u) e)

each_is : (us : List Use) (k : Named) → (fold named k us).only ≡ true → (u : Use) → Contains us u → IsSome (item_of_use k.ds k.names u)
each_is [] k e u (n, within, there) = absurd (omega (arith, within))
each_is (x ∷ us) k e u (zero, within, there) =
    subst (λ (y : Use). IsSome (item_of_use k.ds k.names y)) there (first_is (is_some (item_of_use k.ds k.names x)) k.only (only_before us (named k x) e))
each_is (x ∷ us) k e u (suc n, within, there) = each_is us (named k x) e u (n, omega (arith, within), there)

all_are : (us : List Use) (k : Named) → k.only ≡ true → ((u : Use) → Contains us u → IsSome (item_of_use k.ds k.names u)) → (fold named k us).only ≡ true
all_are [] k e each = e
all_are (x ∷ us) k e each =
    all_are us (named k x) (both_are (is_some (item_of_use k.ds k.names x)) k.only (each x (0, omega arith, refl)) e)
    (λ u (n, within, there). each u (suc n, omega (arith, within), there))

module _ (units : List UnitTree) (names : List (List ℕ)) (known : Place → Option ℤ) (at : Environment) (expr : ExprTree) (v : ℤ) (are : AreItemValues units names known) where
  abbrev start : Named
  start = record { ds = declarations units; names = names; only = true }

  value_if : (b : Bool) → are_items (declarations units) names (expr_uses at expr) ≡ b → (if b then value_by (declarations units) names known at expr else None) ≡ Some v → IsConstant units names at expr v
  unfolding are_items
  value_if true e is = record {
    items = each_is (expr_uses at expr) start e;
    value = record { known = known; items = λ p w k. (are p w).0 k; value = is };
  }
  value_if false e is = absurd (none_is_some v is)

  to_constant : constant_by (declarations units) names known at expr ≡ Some v → IsConstant units names at expr v
  to_constant is = value_if (are_items (declarations units) names (expr_uses at expr)) refl is

  from_constant : IsConstant units names at expr v → constant_by (declarations units) names known at expr ≡ Some v
  unfolding are_items
  from_constant c =
      ap (λ (b : Bool). if b then value_by (declarations units) names known at expr else None) (all_are (expr_uses at expr) start refl c.items)
      ∙ from_grow _ _ v (by_grows (declarations units) names c.value.known known at expr (λ p. to_grow (c.value.known p) (known p) (λ w is. (are p w).1 (c.value.items p w is)))) c.value.value

pub constants_are_found : ConstantsAreFound
constants_are_found units names known at expr v are = (to_constant units names known at expr v are, from_constant units names known at expr v are)
