-- What a line gives its keys.
use Rattle.std.proofs.Common.{◌≡◌, ◌∙◌, ℕ, suc, ◌*◌, ◌^◌, ◌<◌, ◌≤◌, Bool, true, false, List, [], ◌∷◌, ◌++◌, length, drop, All, refl, ap, sym, subst, arith, cond, decimal, nat_lt, ◌&&◌, ◌||◌, true≢false}
use Rattle.std.specs.Prelude.{Option, Some, None}
use Rattle.std.specs.List.{list_any, list_all}
use Rattle.std.proofs.lemmas.Bool.{and_parts}
use Rattle.std.proofs.lemmas.Bool.Decides.{nat_tests}
use Rattle.std.proofs.lemmas.Option.{none-some}
use Rattle.std.proofs.Math.Seq.{drop-append_seam}
use Rattle.pst_words.specs.declared.command.Command.{Command}
use Rattle.pst_words.specs.declared.command.Command.TheVariants.{Run, Solve, Check, Gen, Static, Place, Sweep}
use Rattle.pst_words.specs.declared.key.Key.{Key}
use Rattle.pst_words.specs.declared.key.Key.TheVariants.{Root, Infer, Lanes, Size, Over, Count}
use Rattle.pst_words.specs.Table.{key_start, needed, most_of, IsRoot, IsSize, IsNumber, IsValue}
use Rattle.pst_words.specs.Lines.{is_file, is_of, is_given, given, IsArgument, AKey, AFile, IsWhole}
use Rattle.pst_words.proofs.Given.{given_here, given_later}
use Rattle.pst_words.proofs.Keys.{is_word_of, one_key, key_no_file}
use Rattle.pst_line_parts.specs.Lines.{AreBehind}

some_one : (x y : List ℕ) → Some x ≡ Some y → x ≡ y
some_one x y e = cc

-- what an argument gives a key is a right value
value_is : (command : Command) (have : ℕ) (key : Key) (word text : List ℕ) → is_of key word ≡ true → text ≡ drop (length (key_start key)) word → is_file word ≡ false → IsArgument command have word → IsValue have key text
value_is command have key word text seen is no_file (AKey other rest among e value) =
    let same : other ≡ key = one_key other key word (ap (is_of other) e ∙ is_word_of other rest) seen in
    let cut : text ≡ rest = is ∙ ap (λ (k : Key). drop (length (key_start k)) word) (sym same) ∙ ap (drop (length (key_start other))) e ∙ drop-append_seam (key_start other) rest in
    subst (λ (k : Key). IsValue have k text) same (subst (IsValue have other) (sym cut) value)
value_is command have key word text seen is no_file (AFile f) = absurd (true≢false (sym f ∙ no_file))

-- a value that is given is a right one
value_given : (command : Command) (have : ℕ) (words : List (List ℕ)) → All (IsArgument command have) words → (key : Key) (text : List ℕ) → given key words ≡ Some text → IsValue have key text
value_given command have [] all key text e = absurd (none-some text e)
value_given command have (word ∷ words) all key text e =
    by_test (is_of key word) refl (value_given command have words (λ k d h. all (suc k) d (omega (arith, h))) key text)
  where
    by_test : (b : Bool) → is_of key word ≡ b → (given key words ≡ Some text → IsValue have key text) → IsValue have key text
    by_test true seen later =
        let is : drop (length (key_start key)) word ≡ text = some_one (drop (length (key_start key)) word) text (sym (given_here key word words seen) ∙ e) in
        value_is command have key word text seen (sym is) (key_no_file key word seen) (all 0 word (omega arith))
    by_test false other later = later (sym (given_later key word words other) ∙ e)

-- a key that is given has a value
there : (key : Key) (words : List (List ℕ)) → list_any (is_of key) words ≡ true → (text : List ℕ) × (given key words ≡ Some text)
there key [] e = absurd (true≢false (sym e))
there key (word ∷ words) e = by_test (is_of key word) refl (there key words)
  where
    by_test : (b : Bool) → is_of key word ≡ b → (list_any (is_of key) words ≡ true → (text : List ℕ) × (given key words ≡ Some text)) → (text : List ℕ) × (given key (word ∷ words) ≡ Some text)
    by_test true seen later = (drop (length (key_start key)) word, given_here key word words seen)
    by_test false other later =
        let found = later (ap (λ b. b || list_any (is_of key) words) (sym other) ∙ e) in
        (found.0, given_later key word words other ∙ found.1)

-- every command but `gen` needs a root
needs_root : (p : Key → Bool) (command : Command) → (command ≡ Gen → ⊥) → list_all p (needed command) ≡ true → p Root ≡ true
needs_root p Run other h = (and_parts (p Root) true h).0
needs_root p Solve other h = (and_parts (p Root) true h).0
needs_root p Check other h = (and_parts (p Root) _ h).0
needs_root p Gen other h = absurd (other refl)
needs_root p Static other h = (and_parts (p Root) true h).0
needs_root p Place other h = (and_parts (p Root) _ h).0
needs_root p Sweep other h = (and_parts (p Root) _ h).0

pub root_there : (command : Command) (arguments : List (List ℕ)) → AreBehind command arguments → (command ≡ Gen → ⊥) → ((text : List ℕ) → given Root arguments ≡ Some text → IsRoot text → ⊥) → ⊥
root_there command arguments (have, whole) other none =
    let found = there Root arguments (needs_root (is_given arguments) command other whole.has_needed) in
    none found.0 found.1 (value_given command have arguments whole.right.each Root found.0 found.1)

-- the text spells a number below 2^32
abbrev IsSmall : List ℕ → Type 0
IsSmall text = (n : ℕ) × (text ≡ decimal n) × (n < 2 ^ 32)

pub small_size : (command : Command) (arguments : List (List ℕ)) → AreBehind command arguments → (text : List ℕ) → given Size arguments ≡ Some text → (n : ℕ) × (text ≡ decimal n) × (n < 2 ^ 32)
small_size command arguments (have, whole) text e = of_size (value_given command have arguments whole.right.each Size text e)
  where
    of_size : IsSize text → IsSmall text
    of_size s = let high = s.high in (s.eighth * 8, s.spelled, omega (arith, high))

few_lanes : (have : ℕ) (b : Bool) → nat_lt have 16 ≡ b → cond b have 16 ≤ 16
few_lanes have true h = grind (arith, nat_tests)
few_lanes have false h = omega arith

pub small_lanes : (command : Command) (arguments : List (List ℕ)) → AreBehind command arguments → (text : List ℕ) → given Lanes arguments ≡ Some text → (n : ℕ) × (text ≡ decimal n) × (n < 2 ^ 32)
small_lanes command arguments (have, whole) text e = of_number (value_given command have arguments whole.right.each Lanes text e)
  where
    of_number : IsNumber 1 (most_of have Lanes) text → IsSmall text
    of_number s =
        let high : s.number ≤ cond (nat_lt have 16) have 16 = s.high in
        let few = few_lanes have (nat_lt have 16) refl in
        (s.number, s.spelled, omega (arith, high, few))

pub small_over : (command : Command) (arguments : List (List ℕ)) → AreBehind command arguments → (text : List ℕ) → given Over arguments ≡ Some text → (n : ℕ) × (text ≡ decimal n) × (n < 2 ^ 32)
small_over command arguments (have, whole) text e = of_number (value_given command have arguments whole.right.each Over text e)
  where
    of_number : IsNumber 1 16 text → IsSmall text
    of_number s = let high = s.high in (s.number, s.spelled, omega (arith, high))

pub small_infer : (command : Command) (arguments : List (List ℕ)) → AreBehind command arguments → (text : List ℕ) → given Infer arguments ≡ Some text → (n : ℕ) × (text ≡ decimal n) × (n < 2 ^ 32)
small_infer command arguments (have, whole) text e = of_number (value_given command have arguments whole.right.each Infer text e)
  where
    of_number : IsNumber 0 8 text → IsSmall text
    of_number s = let high = s.high in (s.number, s.spelled, omega (arith, high))

pub small_count : (command : Command) (arguments : List (List ℕ)) → AreBehind command arguments → (text : List ℕ) → given Count arguments ≡ Some text → (n : ℕ) × (text ≡ decimal n) × (n < 2 ^ 32)
small_count command arguments (have, whole) text e = of_number (value_given command have arguments whole.right.each Count text e)
  where
    of_number : IsNumber 1 4096 text → IsSmall text
    of_number s = let high = s.high in (s.number, s.spelled, omega (arith, high))

-- what is given is below 2^32, as what stands for it otherwise is
pub number_fits : (key : Key) (arguments : List (List ℕ)) (otherwise result : ℕ) → otherwise < 2 ^ 32 → ((text : List ℕ) → given key arguments ≡ Some text → (n : ℕ) × (text ≡ decimal n) × (n < 2 ^ 32))
    → ((n : ℕ) → n < 2 ^ 64 → given key arguments ≡ Some (decimal n) → result ≡ n) → (given key arguments ≡ None → result ≡ otherwise) → result < 2 ^ 32
number_fits key arguments otherwise result low small is_given is_not = by_given (given key arguments) refl
  where
    by_given : (g : Option (List ℕ)) → given key arguments ≡ g → result < 2 ^ 32
    by_given None e = let same = is_not e in omega (arith, same, low)
    by_given (Some text) e =
        let found = small text e in
        let below = found.2 in
        let same = is_given found.0 (omega (arith, below)) (e ∙ ap Some found.1) in
        omega (arith, same, below)
