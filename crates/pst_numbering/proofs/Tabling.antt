-- The table of slots finds their numbers.
use Rattle.std.proofs.Common.{◌≡◌, ℕ, zero, suc, ◌+◌, ◌<◌, ◌≤◌, List, [], ◌∷◌, ◌++◌, Bool, true, false, refl, sym, ap, ◌∙◌, arith, length, map, true≢false}
use Rattle.std.proofs.lemmas.Bool.{eqb-true}
use Rattle.std.proofs.lemmas.List.{length-drop, length-map, length-take-le, map-append, take-append-drop, take_more}
use Rattle.std.proofs.Math.Seq.{take-length}
use Rattle.std.specs.Prelude.{◌-◌, ◌&&◌, nat_eq, get_or, take, drop, is_some, Option, Some, None, if◌then◌else◌}
use Rattle.std.specs.Bool.{beq}
use Rattle.std.specs.Option.{option_or}
use Rattle.pst_model.specs.ConstraintTree.{SlotTree, Own, Object, First, ClaimId, ClaimField, Prev, IsFirst, Id, Index, Local, Through, Outer}
use Rattle.pst_terms.specs.Slots.{same_slot, slot_number}
use Rattle.pst_numbering.specs.contracts.reading.OwnSlotPartialEq.TheImpl as owns
use Rattle.pst_numbering.specs.declared.reading.OwnSlot.{OwnSlot}
use Rattle.pst_numbering.specs.declared.reading.OwnSlot.TheVariants as own
use Rattle.pst_numbering.specs.declared.reading.KeptSlot.{KeptSlot}
use Rattle.pst_numbering.specs.Kept.{outer_if, through, view_all, view_kept, view_own}
use Rattle.pst_numbering.specs.Tabled.{number_from, same_key}
use Rattle.pst_numbering.proofs.Grown.{same_itself}

-- ---- slots that are the same

both : (a b : Bool) → (a && b) ≡ true → (a ≡ true) × (b ≡ true)
both true true e = (refl, refl)
both true false e = cc
both false b e = cc

two : {X : Type 0} (f : ℕ → ℕ → X) (a b c d : ℕ) → (nat_eq a c && nat_eq b d) ≡ true → f a b ≡ f c d
two f a b c d e =
    let p = both (nat_eq a c) (nat_eq b d) e in
    (λ i. f (eqb-true a c p.0 i) (eqb-true b d p.1 i))

told : (a b : SlotTree) → same_slot a b ≡ true → a ≡ b
told (Own a) (Own b) e = ap Own (eqb-true a b e)
told (Object r a) (Object s b) e = two Object r a s b e
told (First r) (First s) e = ap First (eqb-true r s e)
told (ClaimId c) (ClaimId d) e = ap ClaimId (eqb-true c d e)
told (ClaimField c a) (ClaimField d b) e = two ClaimField c a d b e
told (Prev a) (Prev b) e = ap Prev (eqb-true a b e)
told IsFirst IsFirst e = refl
told Id Id e = refl
told (Index a) (Index b) e = ap Index (eqb-true a b e)
told (Local a) (Local b) e = ap Local (eqb-true a b e)
told (Through h a) (Through k b) e =
    let p = both (nat_eq h k) (same_slot a b) e in
    let inner = told a b p.1 in
    (λ i. Through (eqb-true h k p.0 i) (inner i))
told (Outer a) (Outer b) e = ap Outer (told a b e)
told a b e = absurd (true≢false (sym e))

either_way : (x y : Bool) → (x ≡ true → y ≡ true) → (y ≡ true → x ≡ true) → x ≡ y
either_way true true f g = refl
either_way true false f g = sym (f refl)
either_way false true f g = g refl
either_way false false f g = refl

turned_on : (a b : SlotTree) → same_slot a b ≡ true → same_slot b a ≡ true
turned_on a b e = ap (λ (z : SlotTree). same_slot z a) (sym (told a b e)) ∙ same_itself a

turned : (a b : SlotTree) → same_slot a b ≡ same_slot b a
turned a b = either_way (same_slot a b) (same_slot b a) (turned_on a b) (turned_on b a)

-- ---- keys are compared as slots are

own_is : (a b : OwnSlot) → owns.eq-value.it a b ≡ same_slot (view_own a) (view_own b)
own_is (own.Own x) (own.Own x') = refl
own_is (own.Object r x) (own.Object r' x') = refl
own_is (own.First r) (own.First r') = refl
own_is (own.ClaimId c) (own.ClaimId c') = refl
own_is (own.ClaimField c x) (own.ClaimField c' x') = refl
own_is (own.Prev x) (own.Prev x') = refl
own_is own.IsFirst own.IsFirst = refl
own_is own.Id own.Id = refl
own_is (own.Index k) (own.Index k') = refl
own_is (own.Local k) (own.Local k') = refl
own_is a b = refl

not_through : (a : OwnSlot) (h : ℕ) (y : SlotTree) → same_slot (view_own a) (Through h y) ≡ false
not_through (own.Own x) h y = refl
not_through (own.Object r x) h y = refl
not_through (own.First r) h y = refl
not_through (own.ClaimId c) h y = refl
not_through (own.ClaimField c x) h y = refl
not_through (own.Prev x) h y = refl
not_through own.IsFirst h y = refl
not_through own.Id h y = refl
not_through (own.Index k) h y = refl
not_through (own.Local k) h y = refl

through_not : (a : OwnSlot) (h : ℕ) (y : SlotTree) → same_slot (Through h y) (view_own a) ≡ false
through_not (own.Own x) h y = refl
through_not (own.Object r x) h y = refl
through_not (own.First r) h y = refl
through_not (own.ClaimId c) h y = refl
through_not (own.ClaimField c x) h y = refl
through_not (own.Prev x) h y = refl
through_not own.IsFirst h y = refl
through_not own.Id h y = refl
through_not (own.Index k) h y = refl
through_not (own.Local k) h y = refl

own_outer : (a : OwnSlot) (y : SlotTree) → same_slot (view_own a) (Outer y) ≡ false
own_outer (own.Own x) y = refl
own_outer (own.Object r x) y = refl
own_outer (own.First r) y = refl
own_outer (own.ClaimId c) y = refl
own_outer (own.ClaimField c x) y = refl
own_outer (own.Prev x) y = refl
own_outer own.IsFirst y = refl
own_outer own.Id y = refl
own_outer (own.Index k) y = refl
own_outer (own.Local k) y = refl

outer_own : (a : OwnSlot) (y : SlotTree) → same_slot (Outer y) (view_own a) ≡ false
outer_own (own.Own x) y = refl
outer_own (own.Object r x) y = refl
outer_own (own.First r) y = refl
outer_own (own.ClaimId c) y = refl
outer_own (own.ClaimField c x) y = refl
outer_own (own.Prev x) y = refl
outer_own own.IsFirst y = refl
outer_own own.Id y = refl
outer_own (own.Index k) y = refl
outer_own (own.Local k) y = refl

not_outer : (h : Option ℕ) (a : OwnSlot) (y : SlotTree) → same_slot (through h (view_own a)) (Outer y) ≡ false
not_outer None a y = own_outer a y
not_outer (Some h) a y = refl

outer_not : (h : Option ℕ) (a : OwnSlot) (y : SlotTree) → same_slot (Outer y) (through h (view_own a)) ≡ false
outer_not None a y = outer_own a y
outer_not (Some h) a y = refl

behind_is : (h k : Option ℕ) (a b : OwnSlot) (x y : Bool) → same_key (record { outer = x; handle = h; own = a }) (record { outer = y; handle = k; own = b }) ≡ (beq x y && same_slot (through h (view_own a)) (through k (view_own b)))
behind_is None None a b true true = own_is a b
behind_is None None a b false false = own_is a b
behind_is None None a b true false = refl
behind_is None None a b false true = refl
behind_is (Some h) (Some k) a b true true = ap (λ (v : Bool). nat_eq h k && v) (own_is a b)
behind_is (Some h) (Some k) a b false false = ap (λ (v : Bool). nat_eq h k && v) (own_is a b)
behind_is (Some h) (Some k) a b true false = refl
behind_is (Some h) (Some k) a b false true = refl
behind_is None (Some k) a b true true = sym (not_through a k (view_own b))
behind_is None (Some k) a b false false = sym (not_through a k (view_own b))
behind_is None (Some k) a b true false = refl
behind_is None (Some k) a b false true = refl
behind_is (Some h) None a b true true = sym (through_not b h (view_own a))
behind_is (Some h) None a b false false = sym (through_not b h (view_own a))
behind_is (Some h) None a b true false = refl
behind_is (Some h) None a b false true = refl

outer_is : (h k : Option ℕ) (a b : OwnSlot) (x y : Bool) → (beq x y && same_slot (through h (view_own a)) (through k (view_own b))) ≡ same_slot (outer_if x (through h (view_own a))) (outer_if y (through k (view_own b)))
outer_is h k a b true true = refl
outer_is h k a b false false = refl
outer_is h k a b true false = sym (outer_not k b (through h (view_own a)))
outer_is h k a b false true = sym (not_outer h a (through k (view_own b)))

key_is : (a b : KeptSlot) → same_key a b ≡ same_slot (view_kept a) (view_kept b)
key_is a b = behind_is a.handle b.handle a.own b.own a.outer b.outer ∙ outer_is a.handle b.handle a.own b.own a.outer b.outer

-- ---- numbers over trees

added_by : (b : Bool) (n : ℕ) (rest before after : Option ℕ) → rest ≡ option_or before after → (if b then Some n else rest) ≡ option_or (if b then Some n else before) after
added_by true n rest before after e = refl
added_by false n rest before after e = e

added : (n : ℕ) (xs : List SlotTree) (s q : SlotTree) → number_from n (xs ++ s ∷ []) q ≡ option_or (number_from n xs q) (if same_slot q s then Some (n + length xs) else None)
added n [] s q =
    let none : n ≡ n + 0 = omega arith in
    ap (λ (m : ℕ). if same_slot q s then Some m else None) none
added n (x ∷ xs) s q =
    let next : suc n + length xs ≡ n + suc (length xs) = omega arith in
    added_by (same_slot q x) n (number_from (suc n) (xs ++ s ∷ []) q) (number_from (suc n) xs q) (if same_slot q s then Some (n + suc (length xs)) else None)
    (added (suc n) xs s q ∙ ap (λ (m : ℕ). option_or (number_from (suc n) xs q) (if same_slot q s then Some m else None)) next)

or_none : (o : Option ℕ) → o ≡ option_or o None
or_none (Some x) = refl
or_none None = refl

kept_by : (b : Bool) (found old : Option ℕ) (n : ℕ) → (b ≡ true → old ≡ found) → (if is_some found then old else (if b then Some n else old)) ≡ option_or old (if b then Some n else None)
kept_by true (Some k) old n h = h refl ∙ ap (λ (o : Option ℕ). option_or o (Some n)) (sym (h refl))
kept_by true None old n h = ap (λ (o : Option ℕ). option_or o (Some n)) (sym (h refl))
kept_by false (Some k) old n h = or_none old
kept_by false None old n h = or_none old

-- the map that has one slot more
pub mapped_next : (old new : KeptSlot → Option ℕ) (xs : List KeptSlot) (s : KeptSlot) (number : ℕ) → number ≡ length xs → ((q : KeptSlot) → old q ≡ number_from 0 (view_all xs) (view_kept q))
    → ((q : KeptSlot) → new q ≡ (if is_some (old s) then old q else (if same_key s q then Some number else old q))) → (q : KeptSlot) → new q ≡ number_from 0 (view_all (xs ++ s ∷ [])) (view_kept q)
mapped_next old new xs s number last before after q =
    let vq = view_kept q in
    let vs = view_kept s in
    let at : number ≡ 0 + length (view_all xs) = last ∙ sym (length-map xs view_kept) ∙ omega arith in
    after q
    ∙ ap (λ (b : Bool). if is_some (old s) then old q else (if b then Some number else old q)) (key_is s q ∙ turned vs vq)
    ∙ kept_by (same_slot vq vs) (old s) (old q) number (λ e. before q ∙ ap (number_from 0 (view_all xs)) (told vq vs e) ∙ sym (before s))
    ∙ (λ i. option_or (before q i) (if same_slot vq vs then Some (at i) else None))
    ∙ sym (ap (λ (l : List SlotTree). number_from 0 l vq) (map-append view_kept xs (s ∷ [])) ∙ added 0 (view_all xs) vs vq)

none_some : {X : Type 0} {k : X} → None ≡ Some k → ⊥
none_some {X} {k} e = cc

same_some : {m k : ℕ} → Some m ≡ Some k → m ≡ k
same_some {m} {k} e = cc

some_none : {X : Type 0} {k : X} → Some k ≡ None → ⊥
some_none {X} {k} e = cc

found_by : (b : Bool) (n k m : ℕ) (rest : Option ℕ) → (if b then Some n else rest) ≡ Some k → (rest ≡ Some k → suc n + m ≡ k) → n + (if b then 0 else suc m) ≡ k
found_by true n k m rest e h = omega (arith, same_some e)
found_by false n k m rest e h = omega (arith, h e)

found_is : (n : ℕ) (xs ys : List SlotTree) (q : SlotTree) (k : ℕ) → number_from n xs q ≡ Some k → n + slot_number (xs ++ ys) q ≡ k
found_is n [] ys q k e = absurd (none_some e)
found_is n (x ∷ xs) ys q k e = found_by (same_slot q x) n k (slot_number (xs ++ ys) q) (number_from (suc n) xs q) e (λ f. found_is (suc n) xs ys q k f)

missed_by : (b : Bool) (n m l : ℕ) (rest : Option ℕ) → (if b then Some n else rest) ≡ None → (rest ≡ None → m ≡ l) → (if b then 0 else suc m) ≡ suc l
missed_by true n m l rest e h = absurd (some_none e)
missed_by false n m l rest e h = ap suc (h e)

missed_is : (n : ℕ) (xs ys : List SlotTree) (q : SlotTree) → number_from n xs q ≡ None → slot_number (xs ++ ys) q ≡ length xs + slot_number ys q
missed_is n [] ys q e = omega arith
missed_is n (x ∷ xs) ys q e =
    let next : suc (length xs + slot_number ys q) ≡ suc (length xs) + slot_number ys q = omega arith in
    missed_by (same_slot q x) n (slot_number (xs ++ ys) q) (length xs + slot_number ys q) (number_from (suc n) xs q) e (λ f. missed_is (suc n) xs ys q f) ∙ next

within_by : (b : Bool) (m l : ℕ) → m ≤ l → (if b then 0 else suc m) ≤ suc l
within_by true m l h = omega arith
within_by false m l h = omega (arith, h)

at_most : (xs : List SlotTree) (q : SlotTree) → slot_number xs q ≤ length xs
at_most [] q = omega arith
at_most (x ∷ xs) q = within_by (same_slot q x) (slot_number xs q) (length xs) (at_most xs q)

-- ---- over kept slots

split : (slots : List KeptSlot) (mapped : ℕ) → view_all slots ≡ view_all (take mapped slots) ++ view_all (drop mapped slots)
split slots mapped = ap view_all (sym (take-append-drop mapped slots)) ∙ map-append view_kept (take mapped slots) (drop mapped slots)

pub looked_up : (slots : List KeptSlot) (mapped : ℕ) (q : KeptSlot) (k : ℕ) → number_from 0 (view_all (take mapped slots)) (view_kept q) ≡ Some k → k ≡ slot_number (view_all slots) (view_kept q)
looked_up slots mapped q k e =
    let found = found_is 0 (view_all (take mapped slots)) (view_all (drop mapped slots)) (view_kept q) k e in
    omega (arith, found) ∙ ap (λ (l : List SlotTree). slot_number l (view_kept q)) (sym (split slots mapped))

pub gone_through : (slots : List KeptSlot) (mapped : ℕ) (q : KeptSlot) → mapped ≤ length slots → number_from 0 (view_all (take mapped slots)) (view_kept q) ≡ None
    → mapped + slot_number (view_all (drop mapped slots)) (view_kept q) ≡ slot_number (view_all slots) (view_kept q)
gone_through slots mapped q within e =
    let before : length (view_all (take mapped slots)) ≡ mapped = length-map (take mapped slots) view_kept ∙ length-take-le mapped slots within in
    ap (λ (n : ℕ). n + slot_number (view_all (drop mapped slots)) (view_kept q)) (sym before)
    ∙ sym (missed_is 0 (view_all (take mapped slots)) (view_all (drop mapped slots)) (view_kept q) e)
    ∙ ap (λ (l : List SlotTree). slot_number l (view_kept q)) (sym (split slots mapped))

-- what is left of the slots behind those that are mapped
pub rest_is : (slots list : List KeptSlot) (mapped : ℕ) → list ≡ slots → take (length list - mapped) (drop mapped list) ≡ drop mapped slots
rest_is slots list mapped e =
    ap (λ (n : ℕ). take n (drop mapped list)) (sym (length-drop mapped list)) ∙ take-length (drop mapped list) ∙ ap (drop mapped) e

pub number_within : (slots : List KeptSlot) (q : KeptSlot) → slot_number (view_all slots) (view_kept q) ≤ length slots
number_within slots q =
    let same = length-map slots view_kept in
    omega (arith, same, at_most (view_all slots) (view_kept q))

pub one_more : (slots : List KeptSlot) (mapped : ℕ) (d : KeptSlot) → mapped < length slots → take (mapped + 1) slots ≡ take mapped slots ++ get_or slots mapped d ∷ []
one_more slots mapped d within = take_more slots mapped d within

pub length_mapped : (slots : List KeptSlot) (mapped : ℕ) → mapped < length slots → mapped ≡ length (take mapped slots)
length_mapped slots mapped within =
    let at_most_all : mapped ≤ length slots = omega (arith, within) in
    sym (length-take-le mapped slots at_most_all)
