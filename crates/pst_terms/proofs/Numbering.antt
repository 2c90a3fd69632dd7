-- The expression by the numbers of its slots has the value of the term.
use Rattle.std.proofs.Common.{◌≡◌, refl, sym, subst, ap, arith, ◌∙◌, ◌<◌, true≢false}
use Rattle.std.specs.Prelude.{ℕ, zero, suc, ◌+◌, ℤ, pos, negsuc, nat_lt, Bool, true, false, List, [], ◌∷◌, map, length, slice_get, Option, Some, None, if◌then◌else◌}
use Rattle.std.specs.Option.{option_and_then, unwrap_or}
use Rattle.std.proofs.lemmas.Bool.{ltb-true, lt-ltb}
use Rattle.std.proofs.lemmas.Option.{slice_get_within}
use Rattle.pst_expr.specs.Value.{value, variable_value, element_value, given, unary_value, binary_value}
use Rattle.pst_model.specs.ConstraintTree.{SlotTree}
use Rattle.pst_terms.specs.Terms.{Term, Number, Leaf, Prefix, Infix, Indexed}
use Rattle.pst_terms.specs.Slots.{slot_number, first_number, numbered}
use Rattle.pst_terms.specs.Values.{element_under, term_value}
use Rattle.pst_terms.specs.Laws.{StandIn}

some_is : {A : Type 0} (x y : A) → Some x ≡ Some y → x ≡ y
some_is x y e = ap (λ o. unwrap_or o x) e

abbrev IsMissing : {A : Type 0} → Option A → Type 0
IsMissing None = Unit {0}
IsMissing (Some x) = ⊥

is_missing : {A : Type 0} (x : A) → None ≡ Some x → ⊥
is_missing x e = subst IsMissing e tt

module _ (f : SlotTree → Option ℤ) where
  -- the value of what stands at a number
  value_at : (slots : List SlotTree) (k : ℕ) (slot : SlotTree) → slice_get slots k ≡ Some slot → variable_value (map f slots) k ≡ f slot
  value_at [] k slot e = absurd (is_missing slot e)
  value_at (x ∷ xs) zero slot e = ap f (some_is x slot e)
  value_at (x ∷ xs) (suc k) slot e = value_at xs k slot e

  module _ (slots elements : List SlotTree) (first : ℕ) (together : (i : ℕ) (slot : SlotTree) → slice_get elements i ≡ Some slot → slice_get slots (first + i) ≡ Some slot) where
    by_test : (i : ℕ) (o : Option SlotTree) → slice_get elements i ≡ o → (b : Bool) → nat_lt i (length elements) ≡ b
        → (if b then variable_value (map f slots) (first + i) else None) ≡ option_and_then f o
    by_test i (Some slot) e true less = value_at slots (first + i) slot (together i slot e)
    by_test i (Some slot) e false not_less = absurd (true≢false (sym (lt-ltb i (length elements) (slice_get_within elements i slot e)) ∙ not_less))
    by_test i None e false not_less = refl
    by_test i None e true less = absurd (no_element elements i e (ltb-true i (length elements) less))
      where
        no_element : (xs : List SlotTree) (k : ℕ) → slice_get xs k ≡ None → k < length xs → ⊥
        no_element [] k e less = omega (arith, less)
        no_element (x ∷ xs) zero e less = is_missing x (sym e)
        no_element (x ∷ xs) (suc k) e less = no_element xs k e (omega (arith, less))

    same_element : (v : ℤ) → element_value (map f slots) first (length elements) v ≡ element_under f elements v
    same_element (pos i) = by_test i (slice_get elements i) refl (nat_lt i (length elements)) refl
    same_element (negsuc n) = refl

    pub same_elements : (v w : Option ℤ) → v ≡ w → given (option_and_then (element_value (map f slots) first (length elements)) v) ≡ given (option_and_then (element_under f elements) w)
    same_elements v w e = ap (λ (u : Option ℤ). given (option_and_then (element_value (map f slots) first (length elements)) u)) e ∙ by_value w
      where
        by_value : (w : Option ℤ) → given (option_and_then (element_value (map f slots) first (length elements)) w) ≡ given (option_and_then (element_under f elements) w)
        by_value None = refl
        by_value (Some v) = ap given (same_element v)

  pub numbered_value : (slots : List SlotTree) (term : Term SlotTree) → StandIn slots term → value (numbered slots term) (map f slots) ≡ term_value f term
  numbered_value slots (Number n) stand = refl
  numbered_value slots (Leaf slot) stand = ap given (value_at slots (slot_number slots slot) slot stand)
  numbered_value slots (Prefix operator operand) stand = ap (λ (v : Option ℤ). option_and_then (unary_value operator) v) (numbered_value slots operand stand)
  numbered_value slots (Infix operator left right) stand = λ i. binary_value operator (numbered_value slots left stand.0 i) (numbered_value slots right stand.1 i)
  numbered_value slots (Indexed elements index) stand = same_elements slots elements (first_number slots elements) stand.0 _ _ (numbered_value slots index stand.1)
