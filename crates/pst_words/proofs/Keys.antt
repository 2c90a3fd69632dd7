-- The key of a word.
use Rattle.std.proofs.Common.{sym, refl, ap, ◌∙◌, ◌≡◌, ℕ, List, [], ◌∷◌, ◌++◌, Bool, true, false, not, length, drop, nat_eq, Option, Some, nat_lt, ◌&&◌}
use Rattle.std.specs.Prelude.{bytes_eq}
use Rattle.std.proofs.lemmas.Slice.Eq.{starts_is}
use Rattle.std.proofs.lemmas.Bool.Decides.{Decides-eqb}
use Rattle.std.specs.Option.{option_map_or}
use Rattle.std.specs.List.{take_while, find, list_any}
use Rattle.pst_words.specs.declared.key.Key.{Key}
use Rattle.pst_words.specs.declared.key.Key.TheVariants.{Root, Trace, Seed, Infer, Budget, Lanes, Size, Over, Space, Base, Count, First}
use Rattle.pst_words.specs.Table.{key_text, key_start}
use Rattle.pst_words.specs.Lines.{is_of, is_file}

abbrev is_plain : ℕ → Bool
is_plain b = not (nat_eq b 61)

abbrev pub all_keys : List Key
all_keys = Root ∷ Trace ∷ Seed ∷ Infer ∷ Budget ∷ Lanes ∷ Size ∷ Over ∷ Space ∷ Base ∷ Count ∷ First ∷ []

and_false : (b : Bool) → (b && false) ≡ false
and_false true = refl
and_false false = refl

-- the key of this name
abbrev key_named : List ℕ → Option Key
key_named text = find (λ k. bytes_eq (key_text k) text) all_keys

named : (key : Key) → key_named (key_text key) ≡ Some key
named Root = refl
named Trace = refl
named Seed = refl
named Infer = refl
named Budget = refl
named Lanes = refl
named Size = refl
named Over = refl
named Space = refl
named Base = refl
named Count = refl
named First = refl

before_equals : (key : Key) (rest : List ℕ) → take_while is_plain (key_start key ++ rest) ≡ key_text key
before_equals Root rest = refl
before_equals Trace rest = refl
before_equals Seed rest = refl
before_equals Infer rest = refl
before_equals Budget rest = refl
before_equals Lanes rest = refl
before_equals Size rest = refl
before_equals Over rest = refl
before_equals Space rest = refl
before_equals Base rest = refl
before_equals Count rest = refl
before_equals First rest = refl

-- what a word that gives a key a value is
pub word_is : (key : Key) (word : List ℕ) → is_of key word ≡ true → word ≡ key_start key ++ drop (length (key_start key)) word
word_is key word h = (starts_is Decides-eqb word (key_start key) (is_of key word) refl).0 h

pub is_word_of : (key : Key) (text : List ℕ) → is_of key (key_start key ++ text) ≡ true
is_word_of key text = (starts_is Decides-eqb (key_start key ++ text) (key_start key) (is_of key (key_start key ++ text)) refl).1 text refl

-- a word gives a value to one key alone
pub one_key : (k l : Key) (word : List ℕ) → is_of k word ≡ true → is_of l word ≡ true → k ≡ l
one_key k l word h g =
    let e : key_text k ≡ key_text l =
    sym (before_equals k _) ∙ ap (take_while is_plain) (sym (word_is k word h) ∙ word_is l word g) ∙ before_equals l _ in
    ap (λ (o : Option Key). option_map_or (λ x. x) o k) (sym (named k) ∙ ap key_named e ∙ named l)

equals_in : (key : Key) (rest : List ℕ) → list_any (λ b. nat_eq b 61) (key_start key ++ rest) ≡ true
equals_in Root rest = refl
equals_in Trace rest = refl
equals_in Seed rest = refl
equals_in Infer rest = refl
equals_in Budget rest = refl
equals_in Lanes rest = refl
equals_in Size rest = refl
equals_in Over rest = refl
equals_in Space rest = refl
equals_in Base rest = refl
equals_in Count rest = refl
equals_in First rest = refl

-- and names no file
pub key_no_file : (key : Key) (word : List ℕ) → is_of key word ≡ true → is_file word ≡ false
key_no_file key word h =
    let any : list_any (λ b. nat_eq b 61) word ≡ true = ap (list_any (λ b. nat_eq b 61)) (word_is key word h) ∙ equals_in key _ in
    ap (λ t. nat_lt 0 (length word) && not t) any ∙ and_false (nat_lt 0 (length word))
