-- What a tally tells of the traversals.
use Rattle.std.proofs.Common.{◌≡◌, ◌∷◌, [], List, Bool, true, false, Option, refl, sym, ap, subst, ◌∙◌, true≢false}
use Rattle.std.specs.Prelude.{Some, None, ◌↔◌, IsTrue, not}
use Rattle.std.specs.List.{fold, flat_map}
use Rattle.pst_base.specs.declared.table.NameId.{NameId}
use Rattle.pst_ast.specs.ActivityTree.{StatementTree}
use Rattle.pst_type_rules.specs.Handles.{traversals, IsSteady}
use Rattle.pst_traversals.specs.declared.listing.Traversed.{Traversed}
use Rattle.pst_traversals.specs.Listed.{all_in_statement, withins}
use Rattle.pst_traversals.specs.Tallied.{noted, tally}
use Rattle.pst_traversals.proofs.Within.{in_statements}

-- a second traversal leaves none that is alone
never : (b w : Bool) (ws : List Bool) → fold noted (Some b) (w ∷ ws) ≡ Some false
never b w [] = refl
never b w (v ∷ ws) = never false v ws

some_false : Some false ≡ Some true → ⊥
some_false e = cc

none_true : None ≡ Some true → ⊥
none_true e = cc

pub once : (ws : List Bool) → tally ws ≡ Some true → ws ≡ false ∷ []
once [] e = absurd (none_true e)
once (false ∷ []) e = refl
once (true ∷ []) e = absurd (some_false e)
once (w ∷ v ∷ ws) e = absurd (some_false (sym (never (not w) v ws) ∙ e))

pub once_too : (ws : List Bool) → ws ≡ false ∷ [] → tally ws ≡ Some true
once_too ws e = ap tally e

pub steady_by : (h : NameId) (ss : List StatementTree) (ts : List Traversed) → ts ≡ flat_map (all_in_statement false) ss → withins h ts ≡ flat_map (traversals h false) ss
steady_by h ss ts e = ap (withins h) e ∙ in_statements h ss

pub is_steady_by : (h : NameId) (ss : List StatementTree) (ts : List Traversed) → ts ≡ flat_map (all_in_statement false) ss → tally (withins h ts) ≡ Some true ↔ IsSteady h ss
is_steady_by h ss ts e = ((λ t. sym (steady_by h ss ts e) ∙ once (withins h ts) t), λ s. once_too (withins h ts) (steady_by h ss ts e ∙ s))

some_true : {b : Bool} → Some b ≡ Some true → b ≡ true
some_true {b} e = cc

module _ (h : NameId) (ss : List StatementTree) (ts : List Traversed) (are : ts ≡ flat_map (all_in_statement false) ss) where
  pub once_some : (b : Bool) → Some b ≡ tally (withins h ts) → (IsTrue b → IsSteady h ss) × (IsSteady h ss → IsTrue b)
  once_some b is = ((λ e. (is_steady_by h ss ts are).0 (sym is ∙ ap Some e)), λ s. some_true (is ∙ (is_steady_by h ss ts are).1 s))

  pub once_none : None ≡ tally (withins h ts) → (IsTrue false → IsSteady h ss) × (IsSteady h ss → IsTrue false)
  once_none is = ((λ e. absurd (true≢false (sym e))), λ s. absurd (none_true (is ∙ (is_steady_by h ss ts are).1 s)))
