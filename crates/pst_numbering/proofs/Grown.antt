-- Places of slots stay as further ones come behind them.
use Rattle.std.proofs.Common.{◌≡◌, ℕ, suc, List, [], ◌∷◌, ◌++◌, Bool, true, false, refl, sym, ap, subst, ◌∙◌, length, eq-eqb}
use Rattle.std.proofs.lemmas.List.{append_assoc, append-nil}
use Rattle.std.specs.Prelude.{◌||◌, ◌&&◌, nat_eq, if◌then◌else◌}
use Rattle.std.specs.List.{list_any}
use Rattle.pst_expr.specs.Tree.{Expression, Variable, Unary, Binary, Element}
use Rattle.pst_model.specs.ConstraintTree.{SlotTree, Own, Object, First, ClaimId, ClaimField, Prev, IsFirst, Id, Index, Local, Through, Outer}
use Rattle.pst_terms.specs.Terms.{Term, Number, Leaf, Prefix, Infix, Indexed}
use Rattle.pst_terms.specs.Slots.{same_slot, with_slot, with_slots, with_term, slot_number, first_number, numbered}

-- one slot is there
abbrev pub IsThere : List SlotTree → SlotTree → Type 0
IsThere slots slot = list_any (same_slot slot) slots ≡ true

-- the first of some slots is there
abbrev pub IsFirstThere : List SlotTree → List SlotTree → Type 0
IsFirstThere slots [] = Unit {0}
IsFirstThere slots (slot ∷ more) = IsThere slots slot

-- the slots of an expression are there
abbrev pub Has : List SlotTree → Term SlotTree → Type 0
Has slots (Number n) = Unit {0}
Has slots (Leaf slot) = IsThere slots slot
Has slots (Prefix operator operand) = Has slots operand
Has slots (Infix operator left right) = Has slots left × Has slots right
Has slots (Indexed elements index) = IsFirstThere slots elements × Has slots index

-- ---- slots behind slots

any_by : (a b c : Bool) → (b ≡ true → c ≡ true) → (a || b) ≡ true → (a || c) ≡ true
any_by true b c f e = refl
any_by false b c f e = f e

any_front : (test : SlotTree → Bool) (slots more : List SlotTree) → list_any test slots ≡ true → list_any test (slots ++ more) ≡ true
any_front test [] more e = cc
any_front test (s ∷ slots) more e = any_by (test s) (list_any test slots) (list_any test (slots ++ more)) (any_front test slots more) e

has_front : (slots more : List SlotTree) (t : Term SlotTree) → Has slots t → Has (slots ++ more) t
has_front slots more (Number n) h = tt
has_front slots more (Leaf slot) h = any_front (same_slot slot) slots more h
has_front slots more (Prefix operator operand) h = has_front slots more operand h
has_front slots more (Infix operator left right) h = (has_front slots more left h.0, has_front slots more right h.1)
has_front slots more (Indexed [] index) h = (tt, has_front slots more index h.1)
has_front slots more (Indexed (e ∷ es) index) h = (any_front (same_slot e) slots more h.0, has_front slots more index h.1)

place_by : (a b : Bool) (n m : ℕ) → (b ≡ true → m ≡ n) → (a || b) ≡ true → (if a then 0 else suc m) ≡ (if a then 0 else suc n)
place_by true b n m f e = refl
place_by false b n m f e = ap suc (f e)

place_front : (slots more : List SlotTree) (slot : SlotTree) → IsThere slots slot → slot_number (slots ++ more) slot ≡ slot_number slots slot
place_front [] more slot e = cc
place_front (s ∷ slots) more slot e = place_by (same_slot slot s) (list_any (same_slot slot) slots) (slot_number slots slot) (slot_number (slots ++ more) slot) (place_front slots more slot) e

numbered_front : (slots more : List SlotTree) (t : Term SlotTree) → Has slots t → numbered (slots ++ more) t ≡ numbered slots t
numbered_front slots more (Number n) h = refl
numbered_front slots more (Leaf slot) h = ap Variable (place_front slots more slot h)
numbered_front slots more (Prefix operator operand) h = ap (Unary operator) (numbered_front slots more operand h)
numbered_front slots more (Infix operator left right) h = ap (λ (e : Expression). Binary operator e (numbered (slots ++ more) right)) (numbered_front slots more left h.0) ∙ ap (Binary operator (numbered slots left)) (numbered_front slots more right h.1)
numbered_front slots more (Indexed [] index) h = ap (Element 0 0) (numbered_front slots more index h.1)
numbered_front slots more (Indexed (e ∷ es) index) h = ap (λ (n : ℕ). Element n (length (e ∷ es)) (numbered (slots ++ more) index)) (place_front slots more e h.0) ∙ ap (Element (slot_number slots e) (length (e ∷ es))) (numbered_front slots more index h.1)

-- ---- what an expression adds goes behind

pub record Grows (slots grown : List SlotTree) : Type 0 where
  pub more : List SlotTree
  pub is : grown ≡ slots ++ more

grows_not : (slots : List SlotTree) → Grows slots slots
grows_not slots = record { more = []; is = sym (append-nil slots) }

grows_then : (a b c : List SlotTree) → Grows a b → Grows b c → Grows a c
grows_then a b c g h = record { more = g.more ++ h.more; is = h.is ∙ ap (λ (l : List SlotTree). l ++ h.more) g.is ∙ append_assoc a g.more h.more }

grows_by : (b : Bool) (slots : List SlotTree) (slot : SlotTree) → Grows slots (if b then slots else slots ++ slot ∷ [])
grows_by true slots slot = grows_not slots
grows_by false slots slot = record { more = slot ∷ []; is = refl }

grows_slots : (slots : List SlotTree) (new : List SlotTree) → Grows slots (with_slots slots new)
grows_slots slots [] = grows_not slots
grows_slots slots (slot ∷ more) = grows_then slots (with_slot slots slot) (with_slots (with_slot slots slot) more) (grows_by (list_any (same_slot slot) slots) slots slot) (grows_slots (with_slot slots slot) more)

grows : (slots : List SlotTree) (t : Term SlotTree) → Grows slots (with_term slots t)
grows slots (Number n) = grows_not slots
grows slots (Leaf slot) = grows_by (list_any (same_slot slot) slots) slots slot
grows slots (Prefix operator operand) = grows slots operand
grows slots (Infix operator left right) = grows_then slots (with_term slots left) (with_term (with_term slots left) right) (grows slots left) (grows (with_term slots left) right)
grows slots (Indexed elements index) = grows_then slots (with_slots slots elements) (with_term (with_slots slots elements) index) (grows_slots slots elements) (grows (with_slots slots elements) index)

-- ---- after it was added an expression has its slots

same_number : (n : ℕ) → nat_eq n n ≡ true
same_number n = eq-eqb n n refl

both_true : {a b : Bool} → a ≡ true → b ≡ true → (a && b) ≡ true
both_true {a = true} e f = f
both_true {a = false} e f = cc

or_last : (a b : Bool) → b ≡ true → (a || b) ≡ true
or_last true b e = refl
or_last false b e = e

pub same_itself : (slot : SlotTree) → same_slot slot slot ≡ true
same_itself (Own a) = same_number a
same_itself (Object r a) = both_true (same_number r) (same_number a)
same_itself (First r) = same_number r
same_itself (ClaimId c) = same_number c
same_itself (ClaimField c a) = both_true (same_number c) (same_number a)
same_itself (Prev a) = same_number a
same_itself IsFirst = refl
same_itself Id = refl
same_itself (Index a) = same_number a
same_itself (Local a) = same_number a
same_itself (Through h a) = both_true (same_number h) (same_itself a)
same_itself (Outer a) = same_itself a

has_grown : (a b : List SlotTree) (t : Term SlotTree) → Grows a b → Has a t → Has b t
has_grown a b t g h = subst (λ (l : List SlotTree). Has l t) (sym g.is) (has_front a g.more t h)

there_grown : (a b : List SlotTree) (slot : SlotTree) → Grows a b → IsThere a slot → IsThere b slot
there_grown a b slot g h = has_grown a b (Leaf slot) g h

any_last : (slots : List SlotTree) (slot : SlotTree) → IsThere (slots ++ slot ∷ []) slot
any_last [] slot = ap (λ (b : Bool). b || false) (same_itself slot)
any_last (s ∷ slots) slot = or_last (same_slot slot s) _ (any_last slots slot)

there_by : (b : Bool) (slots : List SlotTree) (slot : SlotTree) → list_any (same_slot slot) slots ≡ b → IsThere (if b then slots else slots ++ slot ∷ []) slot
there_by true slots slot e = e
there_by false slots slot e = any_last slots slot

there_with : (slots : List SlotTree) (slot : SlotTree) → IsThere (with_slot slots slot) slot
there_with slots slot = there_by (list_any (same_slot slot) slots) slots slot refl

first_with : (slots es : List SlotTree) → IsFirstThere (with_slots slots es) es
first_with slots [] = tt
first_with slots (e ∷ es) = there_grown (with_slot slots e) (with_slots (with_slot slots e) es) e (grows_slots (with_slot slots e) es) (there_with slots e)

first_grown : (a b es : List SlotTree) → Grows a b → IsFirstThere a es → IsFirstThere b es
first_grown a b [] g h = tt
first_grown a b (e ∷ es) g h = there_grown a b e g h

pub has_after : (slots : List SlotTree) (t : Term SlotTree) → Has (with_term slots t) t
has_after slots (Number n) = tt
has_after slots (Leaf slot) = there_with slots slot
has_after slots (Prefix operator operand) = has_after slots operand
has_after slots (Infix operator left right) = (has_grown (with_term slots left) (with_term (with_term slots left) right) left (grows (with_term slots left) right) (has_after slots left), has_after (with_term slots left) right)
has_after slots (Indexed elements index) = (first_grown (with_slots slots elements) (with_term (with_slots slots elements) index) elements (grows (with_slots slots elements) index) (first_with slots elements), has_after (with_slots slots elements) index)

-- the first of two expressions keeps its numbers as the second is added
pub numbered_stays : (slots : List SlotTree) (left right : Term SlotTree) → numbered (with_term (with_term slots left) right) left ≡ numbered (with_term slots left) left
numbered_stays slots left right =
    ap (λ (l : List SlotTree). numbered l left) (grows (with_term slots left) right).is ∙ numbered_front (with_term slots left) (grows (with_term slots left) right).more left (has_after slots left)

-- the first element of an array keeps its number as its index is added
pub first_stays : (slots elements : List SlotTree) (index : Term SlotTree) → first_number (with_term (with_slots slots elements) index) elements ≡ first_number (with_slots slots elements) elements
first_stays slots [] index = refl
first_stays slots (e ∷ es) index =
    ap (λ (l : List SlotTree). slot_number l e) (grows (with_slots slots (e ∷ es)) index).is
    ∙ place_front (with_slots slots (e ∷ es)) (grows (with_slots slots (e ∷ es)) index).more e (first_with slots (e ∷ es))
