-- A line has few words.
use Rattle.std.proofs.Common.{arith, refl, ap, ◌∙◌, ◌≡◌, ◌≤◌, ◌+◌, ◌*◌, ℕ, suc, List, [], ◌∷◌, length, get_or, take, map, All, Contains}
use Rattle.std.proofs.lemmas.List.{length-take-le, length-map}
use Rattle.std.proofs.lemmas.List.Sums.{sum_by-cons, sum_by-le, get_or-le-sum_by}
use Rattle.std.specs.List.{count_by, sum_by}
use Rattle.pst_words.specs.declared.command.Command.{Command}
use Rattle.pst_words.specs.declared.command.Command.TheVariants.{Run, Solve, Check, Gen, Static, Place, Sweep}
use Rattle.pst_words.specs.declared.key.Key.{Key}
use Rattle.pst_words.specs.declared.key.Key.TheVariants.{Root, Trace, Seed, Infer, Budget, Lanes, Size, Over, Space, Base, Count, First}
use Rattle.pst_words.specs.Table.{most_files}
use Rattle.pst_words.specs.Lines.{is_of, is_file, times, IsArgument, AKey, AFile, AreArguments}
use Rattle.pst_words.proofs.Keys.{all_keys}
use Rattle.pst_words.proofs.Right.{seen_key}
use Rattle.pst_words.proofs.Fronts.{one_if}

among_all : (key : Key) → Contains all_keys key
among_all Root = (0, omega arith, refl)
among_all Trace = (1, omega arith, refl)
among_all Seed = (2, omega arith, refl)
among_all Infer = (3, omega arith, refl)
among_all Budget = (4, omega arith, refl)
among_all Lanes = (5, omega arith, refl)
among_all Size = (6, omega arith, refl)
among_all Over = (7, omega arith, refl)
among_all Space = (8, omega arith, refl)
among_all Base = (9, omega arith, refl)
among_all Count = (10, omega arith, refl)
among_all First = (11, omega arith, refl)

-- how many words give keys values, key by key
abbrev given_times : List Key → List (List ℕ) → ℕ
given_times keys words = sum_by (λ key. times key words) keys

abbrev keys_of_word : List Key → List ℕ → ℕ
keys_of_word keys word = sum_by (λ key. one_if (is_of key word)) keys

one_word_more : (keys : List Key) (word : List ℕ) (words : List (List ℕ)) → given_times keys (word ∷ words) ≡ keys_of_word keys word + given_times keys words
one_word_more [] word words = refl
one_word_more (key ∷ keys) word words =
    let whole : given_times (key ∷ keys) (word ∷ words) ≡ times key (word ∷ words) + given_times keys (word ∷ words) = sum_by-cons (λ k. times k (word ∷ words)) key keys in
    let here : times key (word ∷ words) ≡ one_if (is_of key word) + times key words = sum_by-cons (λ w. one_if (is_of key w)) word words in
    let first : keys_of_word (key ∷ keys) word ≡ one_if (is_of key word) + keys_of_word keys word = sum_by-cons (λ k. one_if (is_of k word)) key keys in
    let second : given_times (key ∷ keys) words ≡ times key words + given_times keys words = sum_by-cons (λ k. times k words) key keys in
    let later : given_times keys (word ∷ words) ≡ keys_of_word keys word + given_times keys words = one_word_more keys word words in
    omega (arith, whole, here, first, second, later)

counts_for_one : (command : Command) (have : ℕ) (word : List ℕ) → IsArgument command have word → 1 ≤ keys_of_word all_keys word + one_if (is_file word)
counts_for_one command have word (AKey key text among e value) = by_place (among_all key)
  where
    by_place : Contains all_keys key → 1 ≤ keys_of_word all_keys word + one_if (is_file word)
    by_place at =
        let least : one_if (is_of (get_or all_keys at.0 key) word) ≤ keys_of_word all_keys word = get_or-le-sum_by (λ k. one_if (is_of k word)) all_keys at.0 key at.1 in
        let one : one_if (is_of (get_or all_keys at.0 key) word) ≡ 1 = ap (λ (k : Key). one_if (is_of k word)) at.2 ∙ ap one_if (seen_key key word text e) in
        omega (arith, least, one)
counts_for_one command have word (AFile f) = let one : one_if (is_file word) ≡ 1 = ap one_if f in omega (arith, one)

each_counts : (command : Command) (have : ℕ) (words : List (List ℕ)) → All (IsArgument command have) words → length words ≤ given_times all_keys words + count_by is_file words
each_counts command have [] all = omega arith
each_counts command have (word ∷ words) all =
    let here : 1 ≤ keys_of_word all_keys word + one_if (is_file word) = counts_for_one command have word (all 0 word (omega arith)) in
    let later : length words ≤ given_times all_keys words + count_by is_file words = each_counts command have words (λ k d h. all (suc k) d (omega (arith, h))) in
    let files : count_by is_file (word ∷ words) ≡ one_if (is_file word) + count_by is_file words = sum_by-cons (λ w. one_if (is_file w)) word words in
    omega (arith, here, later, files, one_word_more all_keys word words)

few_files : (command : Command) → most_files command ≤ 16
few_files Run = omega arith
few_files Solve = omega arith
few_files Check = omega arith
few_files Gen = omega arith
few_files Static = omega arith
few_files Place = omega arith
few_files Sweep = omega arith

-- each key once, and 16 files
pub few_words : (command : Command) (have : ℕ) (words : List (List ℕ)) → AreArguments command have words → length words ≤ 28
few_words command have words a =
    let keys : given_times all_keys words ≤ length all_keys * 1 = sum_by-le (λ key. times key words) 1 all_keys (λ k d h. a.once (get_or all_keys k d)) in
    omega (arith, keys, each_counts command have words a.each, a.few_files, few_files command)

pub few_taken : {A : Type 0} (f : A → List ℕ) (command : Command) (have : ℕ) (words : List A) (r : ℕ) → r ≤ length words → AreArguments command have (take r (map f words)) → r ≤ 28
few_taken f command have words r inside a =
    let long : length (take r (map f words)) ≡ r = length-take-le r (map f words) (let same : length (map f words) ≡ length words = length-map words f in omega (arith, same, inside)) in
    omega (arith, long, few_words command have (take r (map f words)) a)
