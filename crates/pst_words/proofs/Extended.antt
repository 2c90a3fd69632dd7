-- A front of right words goes on to a line.
use Rattle.std.proofs.Common.{arith, sym, subst, refl, ap, ◌∙◌, ◌≡◌, ◌<◌, ◌≤◌, ◌+◌, ◌^◌, ℕ, zero, suc, List, [], ◌∷◌, ◌++◌, Bool, true, false, ◌||◌, ◌&&◌, length, drop, decimal, codes, All, Contains, Some, IsTrue, nat_le}
use Rattle.std.proofs.lemmas.Option.{none-some}
use Rattle.std.proofs.lemmas.Fmt.{decimal_digit, decimal_injective}
use Rattle.std.proofs.lemmas.List.{append_assoc, append-nil}
use Rattle.std.proofs.lemmas.Bool.Decides.{nat_tests}
use Rattle.std.proofs.lemmas.List.Elements.{All-push, Contains-append_left}
use Rattle.std.proofs.lemmas.List.Folds.{list_any-append}
use Rattle.std.specs.List.{count_by, list_any, list_all}
use Rattle.pst_token.specs.Spelling.{spelling_of}
use Rattle.pst_token.specs.Lexemes.{IsName}
use Rattle.pst_token.proofs.Found.{reads_back}
use Rattle.pst_words.specs.declared.command.Command.{Command}
use Rattle.pst_words.specs.declared.command.Command.TheVariants.{Run, Solve, Check, Gen, Static, Place, Sweep}
use Rattle.pst_words.specs.declared.command.Lines.{Lines}
use Rattle.pst_words.specs.declared.key.Key.{Key}
use Rattle.pst_words.specs.declared.key.Key.TheVariants.{Root, Trace, Seed, Infer, Budget, Lanes, Size, Over, Space, Base, Count, First}
use Rattle.pst_words.specs.Table.{command_text, is_served, key_start, needed, optional, fewest_files, most_files, IsValue}
use Rattle.pst_words.specs.Lines.{is_of, is_file, is_given, given, AKey, AFile, AreSeeds, AreArguments, BeginsLine}
use Rattle.pst_words.proofs.Dropped.{some_one}
use Rattle.pst_words.proofs.Keys.{is_word_of, one_key, key_no_file}
use Rattle.pst_words.proofs.Right.{true_false}
use Rattle.pst_words.proofs.Fronts.{given_passed, given_last, right_more, count_more, one_if}

-- ---- a word for each key that some line needs

abbrev sample : Key → List ℕ
sample Root = codes "a::a"
sample Trace = codes "a"
sample Size = codes "8"
sample _ = codes "1"

abbrev is_sampled : Key → Bool
is_sampled Root = true
is_sampled Trace = true
is_sampled Size = true
is_sampled Space = true
is_sampled Count = true
is_sampled _ = false

not_empty : (text : List ℕ) → text ≡ codes "a" → text ≡ [] → ⊥
not_empty text e z = let no_length : 1 ≡ 0 = ap length (sym e ∙ z) in omega (arith, no_length)

a_is_name : IsName (codes "a")
a_is_name = record {
  word = refl;
  free = λ kind e. none-some kind (reads_back (codes "a") kind (not_empty (spelling_of kind) e) e);
}

sampled_right : (have : ℕ) (key : Key) → is_sampled key ≡ true → IsValue have key (sample key)
sampled_right have Root h = record { component = codes "a"; action = codes "a"; are = refl; component_is_name = a_is_name; action_is_name = a_is_name }
sampled_right have Trace h = omega arith
sampled_right have Size h = record { eighth = 1; spelled = sym (decimal_digit 8 (omega arith)); low = omega arith; high = omega arith }
sampled_right have Space h = record { number = 1; spelled = sym (decimal_digit 1 (omega arith)); low = omega arith; high = omega arith }
sampled_right have Count h = record { number = 1; spelled = sym (decimal_digit 1 (omega arith)); low = omega arith; high = omega arith }
sampled_right have Seed h = absurd (true_false (sym h))
sampled_right have Infer h = absurd (true_false (sym h))
sampled_right have Budget h = absurd (true_false (sym h))
sampled_right have Lanes h = absurd (true_false (sym h))
sampled_right have Over h = absurd (true_false (sym h))
sampled_right have Base h = absurd (true_false (sym h))
sampled_right have First h = absurd (true_false (sym h))

abbrev sample_word : Key → List ℕ
sample_word key = key_start key ++ sample key

-- no seeds are more for it
seeds_more : (words : List (List ℕ)) (key : Key) → is_sampled key ≡ true → is_given words key ≡ false → AreSeeds words → AreSeeds (words ++ sample_word key ∷ [])
seeds_more words key sampled free seeds = λ first count f c g h.
    by_count first count f c (sym (given_passed First words (sample_word key) (first_not (is_of First (sample_word key)) refl)) ∙ g) h (is_of Count (sample_word key)) refl
  where
    first_not : (b : Bool) → is_of First (sample_word key) ≡ b → b ≡ false
    first_not true e = absurd (true_false (sym (subst (λ (k : Key). is_sampled k ≡ true) (one_key key First (sample_word key) (is_word_of key (sample key)) e) sampled)))
    first_not false e = refl

    by_count : (first count : ℕ) → first < 2 ^ 64 → count < 2 ^ 64 → given First words ≡ Some (decimal first) → given Count (words ++ sample_word key ∷ []) ≡ Some (decimal count)
        → (b : Bool) → is_of Count (sample_word key) ≡ b → first + count ≤ 2 ^ 64
    by_count first count f c g h false e = seeds first count f c g (sym (given_passed Count words (sample_word key) e) ∙ h)
    by_count first count f c g h true e =
        let same : key ≡ Count = one_key key Count (sample_word key) (is_word_of key (sample key)) e in
        let last : given Count (words ++ sample_word key ∷ []) ≡ Some (drop (length (key_start Count)) (sample_word key)) =
        given_last Count words (sample_word key) (subst (λ (k : Key). is_given words k ≡ false) same free) e in
        let text : drop (length (key_start Count)) (sample_word key) ≡ decimal 1 = ap (λ (k : Key). drop (length (key_start Count)) (sample_word k)) same ∙ sym (decimal_digit 1 (omega arith)) in
        let one : count ≡ 1 = decimal_injective count 1 c (omega arith) (some_one (decimal count) (decimal 1) (sym h ∙ last ∙ ap (λ (t : List ℕ). Some t) text)) in
        omega (arith, one, f)

with_key : (command : Command) (have : ℕ) (words : List (List ℕ)) (key : Key) → AreArguments command have words → Contains (needed command) key → is_sampled key ≡ true → is_given words key ≡ false
    → AreArguments command have (words ++ sample_word key ∷ [])
with_key command have words key a among sampled free = right_more command have words (sample_word key) a (record {
  argument = AKey key (sample key) (Contains-append_left (needed command) (optional command) key among) refl (sampled_right have key sampled);
  fresh = λ other e. subst (λ (k : Key). is_given words k ≡ false) (one_key key other (sample_word key) (is_word_of key (sample key)) e) free;
  room = λ f. absurd (true_false (sym f ∙ key_no_file key (sample_word key) (is_word_of key (sample key))));
}) (seeds_more words key sampled free a.seeds)

-- ---- all keys that the command needs

pub record HasMore (command : Command) (have : ℕ) (words : List (List ℕ)) (keys : List Key) : Type 0 where
  pub more : List (List ℕ)
  pub right : AreArguments command have (words ++ more)
  pub has : list_all (is_given (words ++ more)) keys ≡ true

pub and_both : (a b : Bool) → a ≡ true → b ≡ true → (a && b) ≡ true
and_both true b e f = f
and_both false b e f = e

or_left : (a b : Bool) → a ≡ true → (a || b) ≡ true
or_left true b e = refl
or_left false b e = absurd (true_false (sym e))

or_right : (a b : Bool) → b ≡ true → (a || b) ≡ true
or_right true b e = refl
or_right false b e = e

stays_given : (words more : List (List ℕ)) (key : Key) → is_given words key ≡ true → is_given (words ++ more) key ≡ true
stays_given words more key e = list_any-append (is_of key) words more ∙ or_left (is_given words key) (list_any (is_of key) more) e

pub and_parts_of : (a b : Bool) → (a && b) ≡ true → (a ≡ true) × (b ≡ true)
and_parts_of true b e = (refl, e)
and_parts_of false b e = absurd (true_false (sym e))

all_stay : (words more : List (List ℕ)) (keys : List Key) → list_all (is_given words) keys ≡ true → list_all (is_given (words ++ more)) keys ≡ true
all_stay words more [] e = refl
all_stay words more (key ∷ keys) e =
    let parts = and_parts_of (is_given words key) (list_all (is_given words) keys) e in
    and_both (is_given (words ++ more) key) (list_all (is_given (words ++ more)) keys) (stays_given words more key parts.0) (all_stay words more keys parts.1)

with_keys : (command : Command) (have : ℕ) (keys : List Key) → All (λ key. Contains (needed command) key × (is_sampled key ≡ true)) keys → (words : List (List ℕ)) → AreArguments command have words
    → HasMore command have words keys
with_keys command have [] all words a = record { more = []; right = subst (AreArguments command have) (sym (append-nil words)) a; has = refl }
with_keys command have (key ∷ keys) all words a = by_test (is_given words key) refl (with_keys command have keys rest)
  where
    rest : All (λ key. Contains (needed command) key × (is_sampled key ≡ true)) keys
    rest = λ k d h. all (suc k) d (omega (arith, h))

    this : Contains (needed command) key × (is_sampled key ≡ true)
    this = all 0 key (omega arith)

    by_test : (b : Bool) → is_given words key ≡ b → ((words : List (List ℕ)) → AreArguments command have words → HasMore command have words keys) → HasMore command have words (key ∷ keys)
    by_test true e later =
        let m = later words a in
        record { more = m.more; right = m.right; has = and_both (is_given (words ++ m.more) key) (list_all (is_given (words ++ m.more)) keys) (stays_given words m.more key e) m.has }
    by_test false e later =
        let m = later (words ++ sample_word key ∷ []) (with_key command have words key a this.0 this.1 e) in
        let same : words ++ sample_word key ∷ [] ++ m.more ≡ words ++ (sample_word key ∷ m.more) = append_assoc words (sample_word key ∷ []) m.more in
        let now : is_given (words ++ sample_word key ∷ []) key ≡ true =
        list_any-append (is_of key) words (sample_word key ∷ []) ∙ or_right (is_given words key) (list_any (is_of key) (sample_word key ∷ [])) (or_left (is_of key (sample_word key)) false (is_word_of key (sample key))) in
        record {
          more = sample_word key ∷ m.more;
          right = subst (AreArguments command have) same m.right;
          has = subst (λ (ws : List (List ℕ)). list_all (is_given ws) (key ∷ keys) ≡ true) same
              (and_both (is_given (words ++ sample_word key ∷ [] ++ m.more) key) (list_all (is_given (words ++ sample_word key ∷ [] ++ m.more)) keys) (stays_given (words ++ sample_word key ∷ []) m.more key now) m.has);
        }

-- ---- a line

none_needed : (command : Command) → All (λ key. Contains (needed command) key × (is_sampled key ≡ true)) []
none_needed command = λ k d h. absurd (omega (arith, h))

one_needed : (command : Command) (key : Key) → needed command ≡ key ∷ [] → is_sampled key ≡ true → All (λ k. Contains (needed command) k × (is_sampled k ≡ true)) (key ∷ [])
one_needed command key is sampled =
    All-push (λ k. Contains (needed command) k × (is_sampled k ≡ true)) [] key (none_needed command) (subst (λ (ks : List Key). Contains ks key) (sym is) (0, omega arith, refl), sampled)

two_needed : (command : Command) (key other : Key) → needed command ≡ key ∷ other ∷ [] → is_sampled key ≡ true → is_sampled other ≡ true
    → All (λ k. Contains (needed command) k × (is_sampled k ≡ true)) (key ∷ other ∷ [])
two_needed command key other is sampled also =
    All-push (λ k. Contains (needed command) k × (is_sampled k ≡ true)) (key ∷ []) other
    (All-push (λ k. Contains (needed command) k × (is_sampled k ≡ true)) [] key (none_needed command) (subst (λ (ks : List Key). Contains ks key) (sym is) (0, omega arith, refl), sampled))
    (subst (λ (ks : List Key). Contains ks other) (sym is) (1, omega arith, refl), also)

needed_sampled : (command : Command) → All (λ key. Contains (needed command) key × (is_sampled key ≡ true)) (needed command)
needed_sampled Run = one_needed Run Root refl refl
needed_sampled Solve = one_needed Solve Root refl refl
needed_sampled Check = two_needed Check Root Trace refl refl refl
needed_sampled Gen = one_needed Gen Size refl refl
needed_sampled Static = one_needed Static Root refl refl
needed_sampled Place = two_needed Place Root Space refl refl refl
needed_sampled Sweep = two_needed Sweep Root Count refl refl refl

abbrev file : List ℕ
file = codes "a"

no_key_of_file : (key : Key) → is_of key file ≡ false
no_key_of_file key = by_test (is_of key file) refl
  where
    by_test : (b : Bool) → is_of key file ≡ b → b ≡ false
    by_test true e = absurd (true_false (let names : is_file file ≡ true = refl in sym names ∙ key_no_file key file e))
    by_test false e = refl

with_file : (command : Command) (have : ℕ) (words : List (List ℕ)) → AreArguments command have words → count_by is_file words < most_files command → AreArguments command have (words ++ file ∷ [])
with_file command have words a room = right_more command have words file a (record { argument = AFile refl; fresh = λ key e. absurd (true_false (sym e ∙ no_key_of_file key)); room = λ f. room })
    (λ first count f c g h. a.seeds first count f c (sym (given_passed First words file (no_key_of_file First)) ∙ g) (sym (given_passed Count words file (no_key_of_file Count)) ∙ h))

few : (n : ℕ) → (1 ≤ n → ⊥) → (◌≡◌ {A = ℕ} 1 1) × (n ≡ 0) × (n < 16)
few zero h = (refl, refl, omega arith)
few (suc n) h = absurd (h (omega arith))

few_for : (command : Command) (n : ℕ) → (fewest_files command ≤ n → ⊥) → (fewest_files command ≡ 1) × (n ≡ 0) × (n < most_files command)
few_for Gen n h = absurd (h (omega arith))
few_for Run n h = few n h
few_for Solve n h = few n h
few_for Check n h = few n h
few_for Static n h = few n h
few_for Place n h = few n h
few_for Sweep n h = few n h

-- some line begins with the command and right words behind it
pub goes_on : (lines : Lines) (have : ℕ) (command : Command) (words : List (List ℕ)) → 0 < have → IsTrue (is_served lines command) → AreArguments command have words
    → BeginsLine lines have (command_text command ∷ words)
goes_on lines have command words some served a = by_test (nat_le (fewest_files command) (count_by is_file (words ++ m.more))) refl
  where
    m : HasMore command have words (needed command)
    m = with_keys command have (needed command) (needed_sampled command) words a

    by_test : (b : Bool) → nat_le (fewest_files command) (count_by is_file (words ++ m.more)) ≡ b → BeginsLine lines have (command_text command ∷ words)
    by_test true e = record {
      more = m.more;
      command = command;
      arguments = words ++ m.more;
      line = record { lanes = some; served = served; are = refl; whole = record { right = m.right; has_needed = m.has; enough_files = grind (arith, nat_tests, e) } };
    }
    by_test false e =
        let few = few_for command (count_by is_file (words ++ m.more)) (λ h. grind (arith, nat_tests, e, h)) in
        let same : words ++ m.more ++ file ∷ [] ≡ words ++ (m.more ++ file ∷ []) = append_assoc words m.more (file ∷ []) in
        let one : one_if (is_file file) ≡ 1 = refl in
        let now : fewest_files command ≤ count_by is_file (words ++ m.more ++ file ∷ []) = omega (arith, few.0, few.1, one, count_more is_file (words ++ m.more) file) in
        record {
          more = m.more ++ file ∷ [];
          command = command;
          arguments = words ++ (m.more ++ file ∷ []);
          line = record {
            lanes = some;
            served = served;
            are = refl;
            whole = record {
              right = subst (AreArguments command have) same (with_file command have (words ++ m.more) m.right few.2);
              has_needed = subst (λ (ws : List (List ℕ)). list_all (is_given ws) (needed command) ≡ true) same (all_stay (words ++ m.more) (file ∷ []) (needed command) m.has);
              enough_files = subst (λ (ws : List (List ℕ)). fewest_files command ≤ count_by is_file ws) same now;
            };
          };
        }
