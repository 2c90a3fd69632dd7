-- Where the slots of a term stand.
use Rattle.std.proofs.Common.{◌≡◌, ◌⊎◌, inl, inr, refl, sym, subst, ap, arith, ◌∙◌, true≢false}
use Rattle.std.specs.Prelude.{ℕ, zero, suc, ◌+◌, Bool, true, false, ◌||◌, List, [], ◌∷◌, ◌++◌, length, slice_get, Option, Some, None, if◌then◌else◌}
use Rattle.std.specs.List.{Contains}
use Rattle.std.specs.Option.{unwrap_or}
use Rattle.std.proofs.lemmas.List.{append_assoc, append-nil}
use Rattle.pst_model.specs.ConstraintTree.{SlotTree}
use Rattle.pst_terms.specs.Terms.{Term, Number, Leaf, Prefix, Infix, Indexed}
use Rattle.pst_terms.specs.Slots.{same_slot, with_slots, with_term, slots_of, slot_number, first_number}
use Rattle.pst_terms.specs.Laws.{StandIn, blocks, is_in, HasNoneTwice, AreApart}
use Rattle.pst_terms.proofs.SameSlots.{same_itself, same_to}

some_is : {A : Type 0} (x y : A) → Some x ≡ Some y → x ≡ y
some_is x y e = ap (λ o. unwrap_or o x) e

abbrev IsMissing : {A : Type 0} → Option A → Type 0
IsMissing None = Unit {0}
IsMissing (Some x) = ⊥

is_missing : {A : Type 0} (x : A) → None ≡ Some x → ⊥
is_missing x e = subst IsMissing e tt

never : (b : Bool) → b ≡ true → b ≡ false → ⊥
never b t f = true≢false (sym t ∙ f)

-- ---- membership

or_left : (a b : Bool) → a ≡ true → (a || b) ≡ true
or_left a b e = ap (λ (c : Bool). c || b) e

or_right : (a b : Bool) → b ≡ true → (a || b) ≡ true
or_right true b e = refl
or_right false b e = e

or_false : (a b : Bool) → a ≡ false → b ≡ false → (a || b) ≡ false
or_false a b e h = ap (λ (c : Bool). c || b) e ∙ h

false_left : (a b : Bool) → (a || b) ≡ false → a ≡ false
false_left true b e = e
false_left false b e = refl

false_right : (a b : Bool) → (a || b) ≡ false → b ≡ false
false_right true b e = absurd (true≢false e)
false_right false b e = e

pub in_itself : (slot : SlotTree) (more : List SlotTree) → is_in slot (slot ∷ more) ≡ true
in_itself slot more = or_left (same_slot slot slot) (is_in slot more) (same_itself slot)

pub in_got : (slots : List SlotTree) (k : ℕ) (slot : SlotTree) → slice_get slots k ≡ Some slot → is_in slot slots ≡ true
in_got [] k slot e = absurd (is_missing slot e)
in_got (x ∷ xs) zero slot e = subst (λ (s : SlotTree). is_in s (x ∷ xs) ≡ true) (some_is x slot e) (in_itself x xs)
in_got (x ∷ xs) (suc k) slot e = or_right (same_slot slot x) (is_in slot xs) (in_got xs k slot e)

in_none : (slot : SlotTree) (xs ys : List SlotTree) → is_in slot xs ≡ false → is_in slot ys ≡ false → is_in slot (xs ++ ys) ≡ false
in_none slot [] ys a b = b
in_none slot (x ∷ xs) ys a b =
    or_false (same_slot slot x) (is_in slot (xs ++ ys)) (false_left (same_slot slot x) (is_in slot xs) a) (in_none slot xs ys (false_right (same_slot slot x) (is_in slot xs) a) b)

-- ---- numbers behind one another

got_front : (xs ys : List SlotTree) (k : ℕ) (slot : SlotTree) → slice_get xs k ≡ Some slot → slice_get (xs ++ ys) k ≡ Some slot
got_front [] ys k slot e = absurd (is_missing slot e)
got_front (x ∷ xs) ys zero slot e = e
got_front (x ∷ xs) ys (suc k) slot e = got_front xs ys k slot e

got_behind : (xs ys : List SlotTree) (k : ℕ) → slice_get (xs ++ ys) (length xs + k) ≡ slice_get ys k
got_behind [] ys k = let e : 0 + k ≡ k = omega arith in ap (λ (i : ℕ). slice_get ys i) e
got_behind (x ∷ xs) ys k = let e : length (x ∷ xs) + k ≡ suc (length xs + k) = omega arith in ap (λ (i : ℕ). slice_get (x ∷ (xs ++ ys)) i) e ∙ got_behind xs ys k

number_by : (b : Bool) (n m : ℕ) → b ≡ false → n ≡ m → (if b then 0 else suc n) ≡ suc m
number_by true n m e h = absurd (true≢false e)
number_by false n m e h = ap suc h

-- behind slots that it isn't among
number_behind : (xs : List SlotTree) (slot : SlotTree) (ys : List SlotTree) → is_in slot xs ≡ false → slot_number (xs ++ slot ∷ ys) slot ≡ length xs
number_behind [] slot ys e = ap (λ (b : Bool). if b then 0 else suc (slot_number ys slot)) (same_itself slot)
number_behind (x ∷ xs) slot ys e =
    number_by (same_slot slot x) (slot_number (xs ++ slot ∷ ys) slot) (length xs) (false_left (same_slot slot x) (is_in slot xs) e) (number_behind xs slot ys (false_right (same_slot slot x) (is_in slot xs) e))

same_number_by : (a b : Bool) (n m : ℕ) → (b ≡ true → n ≡ m) → (a || b) ≡ true → (if a then 0 else suc n) ≡ (if a then 0 else suc m)
same_number_by true b n m f e = refl
same_number_by false b n m f e = ap suc (f e)

-- among slots behind which others come
number_front : (xs ys : List SlotTree) (slot : SlotTree) → is_in slot xs ≡ true → slot_number (xs ++ ys) slot ≡ slot_number xs slot
number_front [] ys slot e = absurd (true≢false (sym e))
number_front (x ∷ xs) ys slot e = same_number_by (same_slot slot x) (is_in slot xs) (slot_number (xs ++ ys) slot) (slot_number xs slot) (number_front xs ys slot) e

-- ---- blocks in slots

abbrev IsTogether : List SlotTree → List SlotTree → Type 0
IsTogether slots b = (i : ℕ) (slot : SlotTree) → slice_get b i ≡ Some slot → slice_get slots (first_number slots b + i) ≡ Some slot

abbrev IsAbsent : List SlotTree → List SlotTree → Type 0
IsAbsent slots b = (slot : SlotTree) → is_in slot b ≡ true → is_in slot slots ≡ false

-- each slot of a block that is together is there
found_by : (x : SlotTree) (xs : List SlotTree) (slot : SlotTree) → (is_in slot xs ≡ true → (i : ℕ) × (slice_get xs i ≡ Some slot)) → (t : Bool) → same_slot slot x ≡ t
    → (t || is_in slot xs) ≡ true → (i : ℕ) × (slice_get (x ∷ xs) i ≡ Some slot)
found_by x xs slot on true same all = (zero, ap (λ (s : SlotTree). Some s) (sym (same_to slot x same)))
found_by x xs slot on false other all = let behind = on all in (suc behind.0, behind.1)

in_found : (b : List SlotTree) (slot : SlotTree) → is_in slot b ≡ true → (i : ℕ) × (slice_get b i ≡ Some slot)
in_found [] slot e = absurd (true≢false (sym e))
in_found (x ∷ xs) slot e = found_by x xs slot (in_found xs slot) (same_slot slot x) refl e

all_there : (slots b : List SlotTree) → IsTogether slots b → (slot : SlotTree) → is_in slot b ≡ true → is_in slot slots ≡ true
all_there slots b together slot e = let i = in_found b slot e in in_got slots (first_number slots b + i.0) slot (together i.0 slot i.1)

kept_by : (t : Bool) (slots other : List SlotTree) → t ≡ true → (if t then slots else other) ≡ slots
kept_by true slots other e = refl
kept_by false slots other e = absurd (true≢false (sym e))

added_by : (t : Bool) (slots other : List SlotTree) → t ≡ false → (if t then slots else other) ≡ other
added_by true slots other e = absurd (true≢false e)
added_by false slots other e = refl

-- slots that are all there
with_kept : (slots b : List SlotTree) → ((slot : SlotTree) → is_in slot b ≡ true → is_in slot slots ≡ true) → with_slots slots b ≡ slots
with_kept slots [] there = refl
with_kept slots (x ∷ more) there =
    ap (λ (s : List SlotTree). with_slots s more) (kept_by (is_in x slots) slots (slots ++ x ∷ []) (there x (in_itself x more)))
    ∙ with_kept slots more (λ slot e. there slot (or_right (same_slot slot x) (is_in slot more) e))

-- slots of which none is there
with_added : (slots b : List SlotTree) → HasNoneTwice b → IsAbsent slots b → with_slots slots b ≡ slots ++ b
with_added slots [] once absent = sym (append-nil slots)
with_added slots (x ∷ more) once absent =
    ap (λ (s : List SlotTree). with_slots s more) (added_by (is_in x slots) slots (slots ++ x ∷ []) (absent x (in_itself x more)))
    ∙ (with_added (slots ++ x ∷ []) more once.1 still_absent ∙ append_assoc slots (x ∷ []) more)
  where
    other_by : (slot : SlotTree) → is_in slot more ≡ true → (t : Bool) → same_slot slot x ≡ t → same_slot slot x ≡ false
    other_by slot e true same = absurd (never (is_in x more) (subst (λ (s : SlotTree). is_in s more ≡ true) (same_to slot x same) e) once.0)
    other_by slot e false other = other

    still_absent : IsAbsent (slots ++ x ∷ []) more
    still_absent slot e =
        in_none slot slots (x ∷ []) (absent slot (or_right (same_slot slot x) (is_in slot more) e)) (or_false (same_slot slot x) false (other_by slot e (same_slot slot x) refl) refl)

new_together : (slots b : List SlotTree) → IsAbsent slots b → IsTogether (slots ++ b) b
new_together slots [] absent i slot e = absurd (is_missing slot e)
new_together slots (x ∷ more) absent i slot e =
    ap (λ (n : ℕ). slice_get (slots ++ x ∷ more) (n + i)) (number_behind slots x more (absent x (in_itself x more))) ∙ (got_behind slots (x ∷ more) i ∙ e)

still_together : (slots more b : List SlotTree) → IsTogether slots b → IsTogether (slots ++ more) b
still_together slots more [] together i slot e = absurd (is_missing slot e)
still_together slots more (x ∷ xs) together i slot e =
    ap (λ (n : ℕ). slice_get (slots ++ more) (n + i)) (number_front slots more x (all_there slots (x ∷ xs) together x (in_itself x xs))) ∙ got_front slots more (first_number slots (x ∷ xs) + i) slot (together i slot e)

-- ---- one block after another

abbrev IsEither : List SlotTree → List SlotTree → Type 0
IsEither slots b = IsTogether slots b ⊎ IsAbsent slots b

to_slots : (xs ys b : List SlotTree) → ys ≡ xs → IsTogether xs b → IsTogether ys b
to_slots xs ys b e h = subst (λ (s : List SlotTree). IsTogether s b) (sym e) h

module _ (slots c : List SlotTree) (once : HasNoneTwice c) where
  pub now_together : IsEither slots c → IsTogether (with_slots slots c) c
  now_together (inl there) = to_slots slots (with_slots slots c) c (with_kept slots c (all_there slots c there)) there
  now_together (inr absent) = to_slots (slots ++ c) (with_slots slots c) c (with_added slots c once absent) (new_together slots c absent)

  pub kept_together : (b : List SlotTree) → IsEither slots c → IsTogether slots b → IsTogether (with_slots slots c) b
  kept_together b (inl there) h = to_slots slots (with_slots slots c) b (with_kept slots c (all_there slots c there)) h
  kept_together b (inr absent) h = to_slots (slots ++ c) (with_slots slots c) b (with_added slots c once absent) (still_together slots c b h)

  absent_by : (b : List SlotTree) → IsEither slots c → AreApart b c → IsAbsent slots b → IsEither (with_slots slots c) b
  absent_by b (inl there) apart absent = inr (subst (λ (s : List SlotTree). IsAbsent s b) (sym (with_kept slots c (all_there slots c there))) absent)
  absent_by b (inr none) (inl same) absent = inl (subst (λ (x : List SlotTree). IsTogether (with_slots slots c) x) (sym same) (now_together (inr none)))
  absent_by b (inr none) (inr different) absent =
      inr (subst (λ (s : List SlotTree). IsAbsent s b) (sym (with_added slots c once none)) (λ slot e. in_none slot slots c (absent slot e) (different slot e)))

  pub still_either : (b : List SlotTree) → IsEither slots c → AreApart b c → IsEither slots b → IsEither (with_slots slots c) b
  still_either b state apart (inl there) = inl (kept_together b state there)
  still_either b state apart (inr absent) = absent_by b state apart absent

abbrev pub with_blocks : List SlotTree → List (List SlotTree) → List SlotTree
with_blocks slots [] = slots
with_blocks slots (b ∷ more) = with_blocks (with_slots slots b) more

blocks_behind : (slots : List SlotTree) (xs ys : List (List SlotTree)) → with_blocks slots (xs ++ ys) ≡ with_blocks (with_blocks slots xs) ys
blocks_behind slots [] ys = refl
blocks_behind slots (x ∷ xs) ys = blocks_behind (with_slots slots x) xs ys

by_blocks : (slots : List SlotTree) (term : Term SlotTree) → with_term slots term ≡ with_blocks slots (blocks term)
by_blocks slots (Number n) = refl
by_blocks slots (Leaf slot) = refl
by_blocks slots (Prefix operator operand) = by_blocks slots operand
by_blocks slots (Infix operator left right) =
    by_blocks (with_term slots left) right ∙ (ap (λ (s : List SlotTree). with_blocks s (blocks right)) (by_blocks slots left) ∙ sym (blocks_behind slots (blocks left) (blocks right)))
by_blocks slots (Indexed elements index) = by_blocks (with_slots slots elements) index

module _ (U : List SlotTree → Type 0) (apart : (b c : List SlotTree) → U b → U c → AreApart b c) (once : (b : List SlotTree) → U b → HasNoneTwice b) where
  abbrev AllIn : List (List SlotTree) → Type 0
  AllIn [] = Unit {0}
  AllIn (b ∷ more) = U b × AllIn more

  abbrev EachIs : List SlotTree → Type 0
  EachIs slots = (b : List SlotTree) → U b → IsEither slots b

  each_on : (slots c : List SlotTree) → U c → EachIs slots → EachIs (with_slots slots c)
  each_on slots c of each b is = still_either slots c (once c of) b (each c of) (apart b c is of) (each b is)

  stays : (todo : List (List SlotTree)) (slots : List SlotTree) → AllIn todo → EachIs slots → (b : List SlotTree) → IsTogether slots b → IsTogether (with_blocks slots todo) b
  stays [] slots all each b h = h
  stays (c ∷ more) slots all each b h = stays more (with_slots slots c) all.1 (each_on slots c all.0 each) b (kept_together slots c (once c all.0) b (each c all.0) h)

  abbrev AllTogether : List SlotTree → List (List SlotTree) → Type 0
  AllTogether slots [] = Unit {0}
  AllTogether slots (b ∷ more) = IsTogether slots b × AllTogether slots more

  all_together : (todo : List (List SlotTree)) (slots : List SlotTree) → AllIn todo → EachIs slots → AllTogether (with_blocks slots todo) todo
  all_together [] slots all each = tt
  all_together (c ∷ more) slots all each =
      (stays more (with_slots slots c) all.1 (each_on slots c all.0 each) c (now_together slots c (once c all.0) (each c all.0)), all_together more (with_slots slots c) all.1 (each_on slots c all.0 each))

  front_together : (slots : List SlotTree) (xs ys : List (List SlotTree)) → AllTogether slots (xs ++ ys) → AllTogether slots xs
  front_together slots [] ys h = tt
  front_together slots (x ∷ xs) ys h = (h.0, front_together slots xs ys h.1)

  rest_together : (slots : List SlotTree) (xs ys : List (List SlotTree)) → AllTogether slots (xs ++ ys) → AllTogether slots ys
  rest_together slots [] ys h = h
  rest_together slots (x ∷ xs) ys h = rest_together slots xs ys h.1

  stand : (slots : List SlotTree) (term : Term SlotTree) → AllTogether slots (blocks term) → StandIn slots term
  stand slots (Number n) h = tt
  stand slots (Leaf slot) h = subst (λ (k : ℕ). slice_get slots k ≡ Some slot) (omega arith) (h.0 0 slot refl)
  stand slots (Prefix operator operand) h = stand slots operand h
  stand slots (Infix operator left right) h = (stand slots left (front_together slots (blocks left) (blocks right) h), stand slots right (rest_together slots (blocks left) (blocks right) h))
  stand slots (Indexed elements index) h = (h.0, stand slots index h.1)

  all_in : (todo : List (List SlotTree)) → ((b : List SlotTree) → Contains todo b → U b) → AllIn todo
  all_in [] f = tt
  all_in (b ∷ more) f = (f b (0, omega arith, refl), all_in more (λ c is. f c (suc is.0, omega (arith, is.1), is.2)))

  pub slots_stand : (term : Term SlotTree) → ((b : List SlotTree) → Contains (blocks term) b → U b) → StandIn (slots_of term) term
  slots_stand term among =
      subst (λ (s : List SlotTree). StandIn s term) (sym (by_blocks [] term))
      (stand (with_blocks [] (blocks term)) term (all_together (blocks term) [] (all_in (blocks term) among) (λ b is. inr (λ slot e. refl))))
