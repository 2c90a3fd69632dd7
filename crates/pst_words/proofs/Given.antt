-- What words give a key.
use Rattle.std.proofs.Common.{refl, ◌≡◌, ℕ, List, ◌∷◌, true, false, length, drop, Some}
use Rattle.pst_words.specs.declared.key.Key.{Key}
use Rattle.pst_words.specs.Table.{key_start}
use Rattle.pst_words.specs.Lines.{is_of, given}

pub given_here : (key : Key) (word : List ℕ) (more : List (List ℕ)) → is_of key word ≡ true → given key (word ∷ more) ≡ Some (drop (length (key_start key)) word)
given_here key word more h = rw h refl

pub given_later : (key : Key) (word : List ℕ) (more : List (List ℕ)) → is_of key word ≡ false → given key (word ∷ more) ≡ given key more
given_later key word more h = rw h refl
