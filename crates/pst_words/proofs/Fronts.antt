-- Fronts of lists of words, of which each may stand behind those before it.
use Rattle.std.proofs.Common.{arith, sym, subst, refl, ap, ◌∙◌, ◌≡◌, ◌≤◌, ◌+◌, ℕ, List, [], ◌∷◌, ◌++◌, Bool, true, false, ◌||◌, cond, length, drop, decimal, All, Some}
use Rattle.std.proofs.lemmas.Option.{none-some}
use Rattle.std.proofs.lemmas.List.{get_or_append_left, length-append}
use Rattle.std.proofs.lemmas.List.Elements.{All-contains, All-push, Contains-append_right}
use Rattle.std.proofs.lemmas.List.Sums.{sum_by-cons, sum_by-append}
use Rattle.std.specs.List.{count_by, list_any}
use Rattle.pst_words.specs.declared.command.Command.{Command}
use Rattle.pst_words.specs.declared.key.Key.{Key}
use Rattle.pst_words.specs.declared.key.Key.TheVariants.{Count, First}
use Rattle.pst_words.specs.Table.{key_start, most_files}
use Rattle.pst_words.specs.Lines.{is_of, is_file, is_given, given, times, IsArgument, AreSeeds, AreArguments, IsRightBehind}
use Rattle.pst_words.proofs.Given.{given_here, given_later}
use Rattle.pst_words.proofs.Right.{true_false}

-- ---- counts

abbrev pub one_if : Bool → ℕ
one_if b = cond b 1 0

pub count_more : {X : Type 0} (p : X → Bool) (xs : List X) (x : X) → count_by p (xs ++ x ∷ []) ≡ count_by p xs + cond (p x) 1 0
count_more p xs x =
    let both : count_by p (xs ++ x ∷ []) ≡ count_by p xs + count_by p (x ∷ []) = sum_by-append (λ y. cond (p y) 1 0) xs (x ∷ []) in
    let one : count_by p (x ∷ []) ≡ cond (p x) 1 0 + 0 = sum_by-cons (λ y. cond (p y) 1 0) x [] in
    omega (arith, both, one)

pub count_front : {X : Type 0} (p : X → Bool) (xs ys : List X) → count_by p xs ≤ count_by p (xs ++ ys)
count_front p xs ys = let both : count_by p (xs ++ ys) ≡ count_by p xs + count_by p ys = sum_by-append (λ y. cond (p y) 1 0) xs ys in omega (arith, both)

or_none : (a b : Bool) → (a || b) ≡ false → (a ≡ false) × (b ≡ false)
or_none true b e = absurd (true_false e)
or_none false b e = (refl, e)

none_or : (a b : Bool) → a ≡ false → b ≡ false → (a || b) ≡ false
none_or true b e f = e
none_or false b e f = f

pub any_none_count : {X : Type 0} (p : X → Bool) (xs : List X) → list_any p xs ≡ false → count_by p xs ≡ 0
any_none_count p [] e = refl
any_none_count p (x ∷ xs) e =
    let parts = or_none (p x) (list_any p xs) e in
    let more : count_by p xs ≡ 0 = any_none_count p xs parts.1 in
    let here : cond (p x) 1 0 ≡ 0 = ap one_if parts.0 in
    let whole : count_by p (x ∷ xs) ≡ cond (p x) 1 0 + count_by p xs = sum_by-cons (λ y. cond (p y) 1 0) x xs in
    omega (arith, whole, here, more)

no_one : (b : Bool) → one_if b ≡ 0 → b ≡ false
no_one true e = absurd (omega (arith, e))
no_one false e = refl

pub none_count_any : {X : Type 0} (p : X → Bool) (xs : List X) → count_by p xs ≡ 0 → list_any p xs ≡ false
none_count_any p [] e = refl
none_count_any p (x ∷ xs) e =
    let whole : count_by p (x ∷ xs) ≡ cond (p x) 1 0 + count_by p xs = sum_by-cons (λ y. cond (p y) 1 0) x xs in
    let here : cond (p x) 1 0 ≡ 0 = omega (arith, whole, e) in
    let more : count_by p xs ≡ 0 = omega (arith, whole, e) in
    none_or (p x) (list_any p xs) (no_one (p x) here) (none_count_any p xs more)

-- ---- what is given

pub given_stays : (key : Key) (front more : List (List ℕ)) (text : List ℕ) → given key front ≡ Some text → given key (front ++ more) ≡ Some text
given_stays key [] more text e = absurd (none-some text e)
given_stays key (w ∷ front) more text e = by_test (is_of key w) refl (given_stays key front more text)
  where
    by_test : (b : Bool) → is_of key w ≡ b → (given key front ≡ Some text → given key (front ++ more) ≡ Some text) → given key (w ∷ front ++ more) ≡ Some text
    by_test true h later = given_here key w (front ++ more) h ∙ sym (given_here key w front h) ∙ e
    by_test false h later = given_later key w (front ++ more) h ∙ later (sym (given_later key w front h) ∙ e)

-- another word behind changes nothing
pub given_passed : (key : Key) (front : List (List ℕ)) (word : List ℕ) → is_of key word ≡ false → given key (front ++ word ∷ []) ≡ given key front
given_passed key [] word h = given_later key word [] h
given_passed key (w ∷ front) word h = by_test (is_of key w) refl (given_passed key front word h)
  where
    by_test : (b : Bool) → is_of key w ≡ b → given key (front ++ word ∷ []) ≡ given key front → given key (w ∷ front ++ word ∷ []) ≡ given key (w ∷ front)
    by_test true g later = given_here key w (front ++ word ∷ []) g ∙ sym (given_here key w front g)
    by_test false g later = given_later key w (front ++ word ∷ []) g ∙ later ∙ sym (given_later key w front g)

-- the first word that gives the key a value stands behind
pub given_last : (key : Key) (front : List (List ℕ)) (word : List ℕ) → is_given front key ≡ false → is_of key word ≡ true → given key (front ++ word ∷ []) ≡ Some (drop (length (key_start key)) word)
given_last key [] word none h = given_here key word [] h
given_last key (w ∷ front) word none h =
    let parts = or_none (is_of key w) (is_given front key) none in
    given_later key w (front ++ word ∷ []) parts.0 ∙ given_last key front word parts.1 h

-- ---- fronts

pub right_more : (command : Command) (have : ℕ) (front : List (List ℕ)) (word : List ℕ) → AreArguments command have front → IsRightBehind command have front word → AreSeeds (front ++ word ∷ [])
    → AreArguments command have (front ++ word ∷ [])
right_more command have front word a r s = record {
  each = All-push (IsArgument command have) front word a.each r.argument;
  once = λ key. once_by key (is_of key word) refl;
  few_files = files_by (is_file word) refl;
  seeds = s;
}
  where
    once_by : (key : Key) (b : Bool) → is_of key word ≡ b → times key (front ++ word ∷ []) ≤ 1
    once_by key true h =
        let none : times key front ≡ 0 = any_none_count (is_of key) front (r.fresh key h) in
        let one : cond (is_of key word) 1 0 ≡ 1 = ap one_if h in
        omega (arith, count_more (is_of key) front word, none, one)
    once_by key false h =
        let none : cond (is_of key word) 1 0 ≡ 0 = ap one_if h in
        omega (arith, count_more (is_of key) front word, a.once key, none)

    files_by : (b : Bool) → is_file word ≡ b → count_by is_file (front ++ word ∷ []) ≤ most_files command
    files_by true h =
        let one : cond (is_file word) 1 0 ≡ 1 = ap one_if h in
        omega (arith, count_more is_file front word, r.room h, one)
    files_by false h =
        let none : cond (is_file word) 1 0 ≡ 0 = ap one_if h in
        omega (arith, count_more is_file front word, a.few_files, none)

pub right_less : (command : Command) (have : ℕ) (front : List (List ℕ)) (word : List ℕ) → AreArguments command have (front ++ word ∷ []) → IsRightBehind command have front word
right_less command have front word a = record {
  argument = All-contains (IsArgument command have) (front ++ word ∷ []) word a.each (Contains-append_right front (word ∷ []) word (0, omega arith, refl));
  fresh = λ key h.
      let one : cond (is_of key word) 1 0 ≡ 1 = ap one_if h in
      none_count_any (is_of key) front (omega (arith, count_more (is_of key) front word, a.once key, one));
  room = λ h.
      let one : cond (is_file word) 1 0 ≡ 1 = ap one_if h in
      omega (arith, count_more is_file front word, a.few_files, one);
}

all_front : {X : Type 0} (P : X → Type 0) (xs ys : List X) → All P (xs ++ ys) → All P xs
all_front P xs ys all = λ k d h.
    subst P (get_or_append_left xs ys d k h) (all k d (let long : length (xs ++ ys) ≡ length xs + length ys = length-append xs ys in omega (arith, long, h)))

pub front_less : (command : Command) (have : ℕ) (front more : List (List ℕ)) → AreArguments command have (front ++ more) → AreArguments command have front
front_less command have front more a = record {
  each = all_front (IsArgument command have) front more a.each;
  once = λ key. omega (arith, count_front (is_of key) front more, a.once key);
  few_files = omega (arith, count_front is_file front more, a.few_files);
  seeds = λ first count f c g h. a.seeds first count f c (given_stays First front more (decimal first) g) (given_stays Count front more (decimal count) h);
}
