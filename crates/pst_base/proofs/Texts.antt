-- What a list of texts says of the list of their bytes.
use Rattle.std.proofs.Common.{◌≡◌, ℕ, List, [], ◌∷◌, ◌++◌, get_or, Bool, true, false, ◌||◌, map, Some, refl, ap, ◌∙◌, sym}
use Rattle.std.specs.Prelude.{String, string_bytes, slice_get, position}
use Rattle.std.specs.List.{list_any, IsDistinct, AllByRecursion}
use Rattle.std.specs.Str.{bytes_eq}
use Rattle.std.specs.String.{string_eq}
use Rattle.std.specs.Option.{option_map}
use Rattle.std.proofs.lemmas.Option.{slice_get-map, slice_get-get_or}
use Rattle.std.proofs.lemmas.List.Folds.{list_any_at}
use Rattle.std.proofs.lemmas.List.Quantifiers.{position-Some}
use Rattle.std.proofs.lemmas.Slice.Eq.{bytes_eq-Decides}
use Rattle.indexmap.specs.IndexSet.{insert_key}
use Rattle.pst_base.specs.Names.{with_text, AreDifferent}

-- the test of a text by its bytes
abbrev pub has_bytes : {Z : Type 0} → List ℕ → String Z → Bool
has_bytes bytes text = bytes_eq bytes (string_bytes text)

pub list_any-map : {X Y : Type 0} (test : Y → Bool) (f : X → Y) (xs : List X) → list_any test (map f xs) ≡ list_any (λ x. test (f x)) xs
list_any-map test f [] = refl
list_any-map test f (x ∷ xs) = ap (λ b. test (f x) || b) (list_any-map test f xs)

pub map-append : {X Y : Type 0} (f : X → Y) (xs ys : List X) → map f (xs ++ ys) ≡ map f xs ++ map f ys
map-append f [] ys = refl
map-append f (x ∷ xs) ys = ap (λ zs. f x ∷ zs) (map-append f xs ys)

-- a text that a look-up found
pub found_at : {Z : Type 0} (bytes : List ℕ) (texts : List (String Z)) (i : ℕ) → position (has_bytes bytes) texts ≡ Some i → slice_get (map string_bytes texts) i ≡ Some bytes
found_at bytes [] i h = cc
found_at bytes (t ∷ ts) i h =
    let at = position-Some (has_bytes bytes) (t ∷ ts) i t h in
    let same : bytes ≡ string_bytes (get_or (t ∷ ts) i t) = (bytes_eq-Decides bytes (string_bytes (get_or (t ∷ ts) i t))).0 at.1 in
    slice_get-map string_bytes (t ∷ ts) i ∙ ap (option_map string_bytes) (slice_get-get_or (t ∷ ts) i t at.0) ∙ ap Some (sym same)

-- it is there
pub found_any : {Z : Type 0} (bytes : List ℕ) (texts : List (String Z)) (i : ℕ) → position (has_bytes bytes) texts ≡ Some i → list_any (bytes_eq bytes) (map string_bytes texts) ≡ true
found_any bytes [] i h = cc
found_any bytes (t ∷ ts) i h =
    let at = position-Some (has_bytes bytes) (t ∷ ts) i t h in
    list_any-map (bytes_eq bytes) string_bytes (t ∷ ts) ∙ list_any_at (has_bytes bytes) (t ∷ ts) i t at.0 at.1

-- a text that was added
pub with_text-insert : {Z : Type 0} (texts : List (String Z)) (text : String Z) → map string_bytes (insert_key string_eq texts text) ≡ with_text (map string_bytes texts) (string_bytes text)
with_text-insert texts text =
    by_cases (list_any (string_eq text) texts) refl
  where
    by_cases : (b : Bool) → list_any (string_eq text) texts ≡ b → map string_bytes (insert_key string_eq texts text) ≡ with_text (map string_bytes texts) (string_bytes text)
    by_cases true h = rw (h, list_any-map (bytes_eq (string_bytes text)) string_bytes texts, h) refl
    by_cases false h = rw (h, list_any-map (bytes_eq (string_bytes text)) string_bytes texts, h) (map-append string_bytes texts (text ∷ []))

-- different texts have different bytes
pub all_differ : {Z : Type 0} (text : String Z) (texts : List (String Z)) → AllByRecursion (λ t. string_eq text t ≡ false) texts → AllByRecursion (λ b. bytes_eq (string_bytes text) b ≡ false) (map string_bytes texts)
all_differ text [] h = tt
all_differ text (t ∷ ts) h = (h.0, all_differ text ts h.1)

pub different_bytes : {Z : Type 0} (texts : List (String Z)) → IsDistinct string_eq texts → AreDifferent (map string_bytes texts)
unfolding IsDistinct
different_bytes [] h = tt
different_bytes (t ∷ ts) h = (all_differ t ts h.0, different_bytes ts h.1)

-- the text at the index that an insertion answered
pub stored_at : {Z : Type 0} (text : String Z) (texts : List (String Z)) (i : ℕ) → (k : String Z) × (slice_get texts i ≡ Some k) × (string_eq text k ≡ true) → slice_get (map string_bytes texts) i ≡ Some (string_bytes text)
stored_at text texts i (k, at, same) =
    slice_get-map string_bytes texts i ∙ ap (option_map string_bytes) at ∙ ap Some (sym ((bytes_eq-Decides (string_bytes text) (string_bytes k)).0 same))
