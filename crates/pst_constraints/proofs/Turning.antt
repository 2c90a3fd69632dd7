-- Scopes of indices.
use Rattle.std.proofs.Common.{◌≡◌, ℕ, zero, suc, ◌+◌, ◌-◌, ◌<◌, ◌≤◌, List, [], ◌∷◌, ◌++◌, refl, sym, ap, ◌∙◌, arith, map, append_assoc}
use Rattle.std.specs.Prelude.{drop, reverse}
use Rattle.std.specs.List.{flat_map}
use Rattle.std.proofs.lemmas.List.{map-append, reverse-append}
use Rattle.pst_ast.specs.declared.leaf.Name.{Name}
use Rattle.pst_base.specs.declared.position.Place.{Place}
use Rattle.pst_model.specs.ConstraintTree.{ConstraintTree, SlotTree}
use Rattle.pst_terms.specs.Fields.{counted}
use Rattle.pst_terms.specs.Terms.{Term}
use Rattle.pst_terms.specs.Readings as tree
use Rattle.pst_elab_rules.specs.Constraints.{with_turn, for_each}
use Rattle.pst_path_readings.specs.declared.setting.Turn.{Turn}
use Rattle.pst_path_readings.specs.Set.{view_turn, view_placed, view_turns}
use Rattle.pst_constraints.specs.Turned.{without_turn}

pub turns_pushed : (turns : List (Place × Turn)) (place : Place) (turn : Turn) → view_turns (turns ++ (place, turn) ∷ []) ≡ (place, view_turn turn) ∷ view_turns turns
turns_pushed turns place turn = ap (map view_placed) (reverse-append turns ((place, turn) ∷ []))

-- ---- the turns of a `foreach`

counted_more : (field end : ℕ) → field < end → counted field (end - field) ≡ field ∷ counted (field + 1) (end - (field + 1))
counted_more field end below =
    let one_less : end - field ≡ suc (end - (field + 1)) = omega (arith, below) in
    ap (counted field) one_less

pub turn_more : (made : Term SlotTree → ConstraintTree) (f : ℕ → List (Term SlotTree)) (old new total : List ConstraintTree) (i n : ℕ) → i < n → new ≡ old ++ map made (f i)
    → old ++ map made (flat_map f (counted i (n - i))) ≡ total → new ++ map made (flat_map f (counted (i + 1) (n - (i + 1)))) ≡ total
turn_more made f old new total i n below is e =
    ap (λ (xs : List ConstraintTree). xs ++ map made (flat_map f (counted (i + 1) (n - (i + 1))))) is
    ∙ append_assoc old (map made (f i)) (map made (flat_map f (counted (i + 1) (n - (i + 1)))))
    ∙ ap (λ (xs : List ConstraintTree). old ++ xs) (sym (map-append made (f i) (flat_map f (counted (i + 1) (n - (i + 1))))))
    ∙ ap (λ (ks : List ℕ). old ++ map made (flat_map f ks)) (sym (counted_more i n below))
    ∙ e
