-- Whether nothing is missing behind a command.
use Rattle.std.proofs.Common.{arith, sym, refl, ap, ◌∙◌, ◌≡◌, ℕ, List, [], ◌∷◌, Bool, true, false, ◌&&◌, nat_le, map}
use Rattle.std.proofs.lemmas.Bool.Decides.{nat_tests}
use Rattle.std.specs.List.{list_any, list_all, count_by}
use Rattle.pst_words.specs.declared.command.Command.{Command}
use Rattle.pst_words.specs.declared.key.Key.{Key}
use Rattle.pst_words.specs.Table.{needed, fewest_files}
use Rattle.pst_words.specs.Lines.{is_of, is_file, is_given, AreArguments, IsWhole}
use Rattle.pst_words.proofs.Dropped.{any_seen, count_seen}
use Rattle.pst_words.proofs.Right.{true_false}
use Rattle.pst_words.proofs.Extended.{and_both, and_parts_of}

keys_seen : {A : Type 0} (f : A → List ℕ) (words : List A) (keys : List Key) → list_all (is_given (map f words)) keys ≡ list_all (λ key. list_any (λ w. is_of key (f w)) words) keys
keys_seen f words [] = refl
keys_seen f words (key ∷ keys) =
    ap (λ b. b && list_all (is_given (map f words)) keys) (any_seen f (is_of key) words) ∙ ap (λ b. list_any (λ w. is_of key (f w)) words && b) (keys_seen f words keys)

-- what the code looks at
abbrev pub has_all : {A : Type 0} → (A → List ℕ) → Command → List A → Bool
has_all f command words = list_all (λ key. list_any (λ w. is_of key (f w)) words) (needed command) && nat_le (fewest_files command) (count_by (λ w. is_file (f w)) words)

pub whole_if : {A : Type 0} (f : A → List ℕ) (command : Command) (have : ℕ) (words : List A) → AreArguments command have (map f words) → has_all f command words ≡ true → IsWhole command have (map f words)
whole_if f command have words a e =
    let parts = and_parts_of (list_all (λ key. list_any (λ w. is_of key (f w)) words) (needed command)) (nat_le (fewest_files command) (count_by (λ w. is_file (f w)) words)) e in
    let files : count_by is_file (map f words) ≡ count_by (λ w. is_file (f w)) words = count_seen f is_file words in
    record { right = a; has_needed = keys_seen f words (needed command) ∙ parts.0; enough_files = grind (arith, nat_tests, parts.1, files) }

pub not_whole_if : {A : Type 0} (f : A → List ℕ) (command : Command) (have : ℕ) (words : List A) → has_all f command words ≡ false → IsWhole command have (map f words) → ⊥
not_whole_if f command have words e w =
    let files : count_by is_file (map f words) ≡ count_by (λ x. is_file (f x)) words = count_seen f is_file words in
    let enough : nat_le (fewest_files command) (count_by (λ x. is_file (f x)) words) ≡ true = grind (arith, nat_tests, w.enough_files, files) in
    true_false (sym (and_both (list_all (λ key. list_any (λ x. is_of key (f x)) words) (needed command)) (nat_le (fewest_files command) (count_by (λ x. is_file (f x)) words)) (sym (keys_seen f words (needed command)) ∙ w.has_needed) enough) ∙ e)
