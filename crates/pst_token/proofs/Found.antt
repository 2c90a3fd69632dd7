-- What a look-up by a spelling finds.
use Rattle.std.proofs.Common.{◌≡◌, ◌≢◌, ℕ, Bool, true, false, cond, List, [], ◌∷◌, length, Option, Some, None, refl, ap, sym, ◌∙◌}
use Rattle.std.specs.Prelude.{IfSome}
use Rattle.std.specs.List.{find}
use Rattle.std.specs.Str.{bytes_eq}
use Rattle.std.proofs.lemmas.Slice.Eq.{bytes_eq-Decides}
use Rattle.pst_token.specs.declared.kind.Kind.{Kind}
use Rattle.pst_token.specs.Spelling.{spelling_of}
use Rattle.pst_token.specs.Lookup.{kind_of, kinds_of_length}
use Rattle.pst_token.proofs.ReadBack.{kind_of-spelling_of}

pub reads_back : (text : List ℕ) (kind : Kind) → spelling_of kind ≢ [] → spelling_of kind ≡ text → kind_of text ≡ Some kind
reads_back text kind some same = ap kind_of (sym same) ∙ kind_of-spelling_of kind some

find_passes : {X : Type 0} (p : X → Bool) (xs : List X) (x : X) → find p xs ≡ Some x → p x ≡ true
find_passes p [] x found = cc
find_passes p (y ∷ ys) x found = by_test (p y) refl (find_passes p ys x) found
  where
    by_test : (b : Bool) → p y ≡ b → (find p ys ≡ Some x → p x ≡ true) → cond b (Some y) (find p ys) ≡ Some x → p x ≡ true
    by_test true h later e = let same : y ≡ x = cc in ap p (sym same) ∙ h
    by_test false h later e = later e

-- what is found is spelled so
pub spelled_as : (text : List ℕ) (kind : Kind) → kind_of text ≡ Some kind → (spelling_of kind ≡ text) × (spelling_of kind ≢ [])
spelled_as [] kind found = cc
spelled_as (b ∷ bytes) kind found =
    let same : spelling_of kind ≡ b ∷ bytes = (bytes_eq-Decides (spelling_of kind) (b ∷ bytes)).0 (find_passes (λ k. bytes_eq (spelling_of k) (b ∷ bytes)) (kinds_of_length (length (b ∷ bytes))) kind found) in
    (same, λ none. cc)

pub if_found : (text : List ℕ) (r : Option Kind) → r ≡ kind_of text → IfSome r (λ kind. (spelling_of kind ≡ text) × (spelling_of kind ≢ []))
if_found text None e = tt
if_found text (Some kind) e = spelled_as text kind (sym e)
