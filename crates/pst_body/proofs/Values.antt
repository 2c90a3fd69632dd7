-- The values of slots and expressions.
use Rattle.std.proofs.Common.{◌≡◌, ◌≢◌, ◌<◌, ◌≤◌, ◌+◌, ℕ, ℤ, pos, negsuc, List, map, length, drop, get_or, set, Bool, true, false, cond, nat_eq, nat_lt, Option, Some, None, option_and_then, refl, ap, subst, sym, ◌∙◌, arith}
use Rattle.std.proofs.lemmas.List.{get_or-map, length-map, get_or-set_same, get_or-set_other}
use Rattle.std.proofs.lemmas.Bool.Decides.{Decides-eqb}
use Rattle.pst_expr.specs.Tree.{Expression, Constant, Variable, Unary, Binary, Element}
use Rattle.pst_expr.specs.Value.{value, unary_value, binary_value, variable_value, element_value, given}
use Rattle.pst_model.specs.declared.constraint.Slot.{Slot}
use Rattle.pst_model.specs.ConstraintTree.{SlotTree, view_slot}
use Rattle.pst_model.specs.SoundConstraint.{IsBelow}
use Rattle.pst_scen.specs.declared.scenario.First.{First}
use Rattle.pst_legal.specs.Slots.{first_values}
use Rattle.pst_body.proofs.Rows.{drop_read}

-- ---- first objects

pub first_read : (firsts : List First) (pool i : ℕ) (first : First) → i < length firsts → first ≡ get_or firsts i first → first.pool ≡ pool
    → first_values (drop i firsts) pool ≡ first_values firsts pool → first.values ≡ first_values firsts pool
first_read firsts pool i first within is same so_far =
    sym (ap (λ (b : Bool). cond b first.values (first_values (drop (i + 1) firsts) pool)) ((Decides-eqb first.pool pool).1 same))
    ∙ sym (ap (λ (l : List First). first_values l pool) (drop_read firsts i first within is))
    ∙ so_far

-- ---- expressions

and_then_same : {A B : Type 0} (v : Option A) (f g : A → Option B) → ((x : A) → f x ≡ g x) → option_and_then f v ≡ option_and_then g v
and_then_same None f g same = refl
and_then_same (Some x) f g same = same x

element_same : (xs ys : List (Option ℤ)) (n first count : ℕ) → ((i : ℕ) → i < n → variable_value xs i ≡ variable_value ys i) → first + count ≤ n → (z : ℤ) → element_value xs first count z ≡ element_value ys first count z
element_same xs ys n first count same inside (negsuc i) = refl
element_same xs ys n first count same inside (pos i) = at (nat_lt i count) refl
  where
    at : (b : Bool) → nat_lt i count ≡ b → cond b (variable_value xs (first + i)) None ≡ cond b (variable_value ys (first + i)) None
    at true below = same (first + i) (grind (arith, below, inside))
    at false below = refl

-- an expression has the same value where the variables below a number have
pub value_same : (e : Expression) (n : ℕ) (xs ys : List (Option ℤ)) → ((i : ℕ) → i < n → variable_value xs i ≡ variable_value ys i) → IsBelow n e → value e xs ≡ value e ys
value_same (Constant z) n xs ys same below = refl
value_same (Variable i) n xs ys same below = ap given (same i below)
value_same (Unary op e) n xs ys same below = ap (λ (v : Option ℤ). option_and_then (unary_value op) v) (value_same e n xs ys same below)
value_same (Binary op a b) n xs ys same below =
    ap (λ (v : Option ℤ). binary_value op v (value b xs)) (value_same a n xs ys same below.0) ∙ ap (λ (v : Option ℤ). binary_value op (value a ys) v) (value_same b n xs ys same below.1)
value_same (Element first count e) n xs ys same below =
    ap (λ (v : Option ℤ). given (option_and_then (element_value xs first count) v)) (value_same e n xs ys same below.3)
    ∙ ap given (and_then_same (value e ys) (element_value xs first count) (element_value ys first count) (element_same xs ys n first count same below.2))

-- ---- writing the values of slots

-- one more slot is written
pub written_next : (f : SlotTree → Option ℤ) (slots : List Slot) (old new : List (Option ℤ)) (i : ℕ) (slot : Slot) (v : Option ℤ)
    → i < length slots → length slots ≤ length old → slot ≡ get_or slots i slot → v ≡ f (view_slot slot) → new ≡ set old i v
    → ((j : ℕ) → j < i → variable_value old j ≡ variable_value (map f (map view_slot slots)) j)
    → (j : ℕ) → j < i + 1 → variable_value new j ≡ variable_value (map f (map view_slot slots)) j
written_next f slots old new i slot v within room is value now so_far j below = at (nat_eq j i) refl
  where
    here : variable_value (set old i v) i ≡ variable_value (map f (map view_slot slots)) i
    here =
        get_or-set_same old i v None (omega (arith, within, room))
        ∙ value ∙ ap (λ (s : Slot). f (view_slot s)) is
        ∙ sym (get_or-map f (map view_slot slots) i (view_slot slot) None (let many = length-map slots view_slot in omega (arith, many, within)) ∙ ap f (get_or-map view_slot slots i slot (view_slot slot) within))

    at : (b : Bool) → nat_eq j i ≡ b → variable_value new j ≡ variable_value (map f (map view_slot slots)) j
    at true same =
        let e : j ≡ i = (Decides-eqb j i).0 same in
        subst (λ (k : ℕ). variable_value new k ≡ variable_value (map f (map view_slot slots)) k) (sym e) (ap (λ (l : List (Option ℤ)). variable_value l i) now ∙ here)
    at false other =
        let apart : j ≢ i = grind (arith, other) in
        ap (λ (l : List (Option ℤ)). variable_value l j) now ∙ get_or-set_other old i j v None apart ∙ so_far j (omega (arith, below, apart))
