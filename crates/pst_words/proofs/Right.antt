-- Which word may stand behind others.
use Rattle.std.proofs.Common.{arith, not, sym, subst, ap, ◌∙◌, ◌≡◌, ◌<◌, ℕ, List, ◌++◌, Bool, true, false, length, drop, All, Contains, MatchBool, nat_lt}
use Rattle.std.proofs.lemmas.Bool.Decides.{nat_tests}
use Rattle.std.proofs.lemmas.List.Elements.{All-contains}
use Rattle.std.proofs.Math.Seq.{drop-append_seam}
use Rattle.std.specs.List.{count_by}
use Rattle.pst_words.specs.declared.command.Command.{Command}
use Rattle.pst_words.specs.declared.key.Key.{Key}
use Rattle.pst_words.specs.Table.{key_start, needed, optional, most_files, IsValue}
use Rattle.pst_words.specs.Lines.{is_of, is_file, is_given, IsArgument, AKey, AFile, IsRightBehind}
use Rattle.pst_words.proofs.Keys.{word_is, is_word_of, one_key, key_no_file}

abbrev IsYes : Bool → Type 0
IsYes true = Unit {0}
IsYes false = ⊥

pub true_false : true ≡ false → ⊥
true_false e = subst IsYes e tt

pub seen_key : (key : Key) (word text : List ℕ) → word ≡ key_start key ++ text → is_of key word ≡ true
seen_key key word text e = ap (is_of key) e ∙ is_word_of key text

pub no_key : (command : Command) (have : ℕ) (front : List (List ℕ)) (word : List ℕ) → All (λ key. is_of key word ≡ false) (needed command ++ optional command) → is_file word ≡ false
    → IsRightBehind command have front word → ⊥
no_key command have front word none no_file h = by_argument h.argument
  where
    by_argument : IsArgument command have word → ⊥
    by_argument (AKey key text among e value) =
        true_false (sym (seen_key key word text e) ∙ All-contains (λ k. is_of k word ≡ false) (needed command ++ optional command) key none among)
    by_argument (AFile f) = true_false (sym f ∙ no_file)

pub value_is : (command : Command) (have : ℕ) (key : Key) (word text : List ℕ) → is_of key word ≡ true → text ≡ drop (length (key_start key)) word → is_file word ≡ false
    → IsArgument command have word → IsValue have key text
value_is command have key word text seen is no_file (AKey other rest among e value) =
    let same : other ≡ key = one_key other key word (seen_key other word rest e) seen in
    let cut : text ≡ rest =
    is ∙ ap (λ k. drop (length (key_start k)) word) (sym same) ∙ ap (drop (length (key_start other))) e ∙ drop-append_seam (key_start other) rest in
    subst (λ (k : Key). IsValue have k text) same (subst (IsValue have other) (sym cut) value)
value_is command have key word text seen is no_file (AFile f) = absurd (true_false (sym f ∙ no_file))

pub right_key : (command : Command) (have : ℕ) (front : List (List ℕ)) (word : List ℕ) (key : Key) (text : List ℕ) → Contains (needed command ++ optional command) key → is_of key word ≡ true
    → text ≡ drop (length (key_start key)) word → IsValue have key text → is_file word ≡ false → is_given front key ≡ false → IsRightBehind command have front word
right_key command have front word key text among seen is value no_file free = record {
  argument = AKey key text among (word_is key word seen ∙ ap (λ t. key_start key ++ t) (sym is)) value;
  fresh = λ k also. subst (λ (q : Key). is_given front q ≡ false) (one_key key k word seen also) free;
  room = λ f. absurd (true_false (sym f ∙ no_file));
}

pub by_key : (command : Command) (have : ℕ) (front : List (List ℕ)) (word : List ℕ) (key : Key) (text : List ℕ) → Contains (needed command ++ optional command) key → is_of key word ≡ true
    → text ≡ drop (length (key_start key)) word → IsValue have key text → is_file word ≡ false → (b : Bool) → is_given front key ≡ not b
    → MatchBool b (IsRightBehind command have front word) (IsRightBehind command have front word → ⊥)
by_key command have front word key text among seen is value no_file true free = right_key command have front word key text among seen is value no_file free
by_key command have front word key text among seen is value no_file false there = λ h. true_false (sym there ∙ h.fresh key seen)

pub by_room : (command : Command) (have : ℕ) (front : List (List ℕ)) (word : List ℕ) → is_file word ≡ true → (b : Bool) → b ≡ nat_lt (count_by is_file front) (most_files command)
    → MatchBool b (IsRightBehind command have front word) (IsRightBehind command have front word → ⊥)
by_room command have front word file true is = record {
  argument = AFile file;
  fresh = λ key seen. absurd (true_false (sym file ∙ key_no_file key word seen));
  room = λ f. grind (arith, nat_tests, is);
}
by_room command have front word file false is = λ h. let below : count_by is_file front < most_files command = h.room file in absurd (grind (arith, nat_tests, is, below))
