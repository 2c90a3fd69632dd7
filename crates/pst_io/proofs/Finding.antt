-- Files found by their names.
use Rattle.std.proofs.Common.{◌≡◌, ◌∙◌, ℕ, zero, suc, ◌<◌, ◌≤◌, List, [], ◌∷◌, length, get_or, Bool, true, false, cond, map, refl, ap, sym, arith}
use Rattle.std.proofs.lemmas.List.{length-map}
use Rattle.std.specs.Prelude.{None, Some, position, String, string_bytes, nat_lt}
use Rattle.std.specs.Global.{Vec}
use Rattle.std.specs.declared.alloc.Global.{Global}
use Rattle.std.specs.List.{find, position_or_len}
use Rattle.std.specs.Option.{option_map}
use Rattle.std.specs.Str.{bytes_eq}
use Rattle.std.proofs.lemmas.List.Folds.{find_at}
use Rattle.std.proofs.lemmas.Option.{slice_get-get_or, slice_get_past}
use Rattle.std.proofs.lemmas.Bool.Decides.{nat_tests}
use Rattle.std.specs.List.{slice_get}
use Rattle.pst_io.specs.Named.{file_of}
use Rattle.pst_io.specs.SureShelf.{named}

-- the first of the images that passes
find-map : {X Y : Type 0} (p : Y → Bool) (f : X → Y) (xs : List X) → find p (map f xs) ≡ option_map f (find (λ x. p (f x)) xs)
find-map p f [] = refl
find-map p f (x ∷ xs) =
    elim (p (f x)) as (λ b. cond b (Some (f x)) (find p (map f xs)) ≡ option_map f (cond b (Some x) (find (λ y. p (f y)) xs))) [ true ↦ refl | false ↦ find-map p f xs ]

-- an index that a test lets through
some_of_cond : (b : Bool) (k i : ℕ) → cond b (Some k) None ≡ Some i → (b ≡ true) × (k ≡ i)
some_of_cond true k i e = (refl, cc)
some_of_cond false k i e = cc

none_of_cond : (b : Bool) (k : ℕ) → cond b (Some k) None ≡ None → b ≡ false
none_of_cond true k e = cc
none_of_cond false k e = refl

-- what stands at the first index that passes is what is found first
found_at_position : {X : Type 0} (p : X → Bool) (xs : List X) (i : ℕ) → position p xs ≡ Some i → (i < length xs) × (find p xs ≡ slice_get xs i)
found_at_position p xs i e =
    let parts = some_of_cond (nat_lt (position_or_len p xs) (length xs)) (position_or_len p xs) i e in
    let below : position_or_len p xs < length xs = grind (arith, nat_tests) in
    (rw (← parts.1) below, find_at p xs ∙ ap (slice_get xs) parts.1)

-- where no index passes nothing is found
none_at_position : {X : Type 0} (p : X → Bool) (xs : List X) → position p xs ≡ None → find p xs ≡ None
none_at_position p xs e =
    let past = none_of_cond (nat_lt (position_or_len p xs) (length xs)) (position_or_len p xs) e in
    let above : length xs ≤ position_or_len p xs = grind (arith, nat_tests) in
    find_at p xs ∙ slice_get_past xs (position_or_len p xs) above

-- a name and its bytes
abbrev pub as_named : String Global × Vec ℕ → List ℕ × List ℕ
as_named file = (string_bytes file.0, file.1.items)

-- a look-up among images
slice_get-map : {X Y : Type 0} (f : X → Y) (xs : List X) (i : ℕ) → slice_get (map f xs) i ≡ option_map f (slice_get xs i)
slice_get-map f [] i = refl
slice_get-map f (x ∷ xs) zero = refl
slice_get-map f (x ∷ xs) (suc i) = slice_get-map f xs i

module _ (files : List (String Global × Vec ℕ)) (name : List ℕ) where
  -- the file at the index that was found
  pub file_of-found : (i : ℕ) → position (λ file. bytes_eq (string_bytes file.0) name) files ≡ Some i → (i < length files) × (file_of (named files) name ≡ Some (get_or (named files) i ([], [])).1)
  file_of-found i found =
      let at = found_at_position (λ file. bytes_eq (string_bytes file.0) name) files i found in
      (at.0, ap (option_map (λ file. file.1)) (find-map (λ file. bytes_eq file.0 name) as_named files ∙ ap (option_map as_named) at.1 ∙ sym (slice_get-map as_named files i) ∙ slice_get-get_or (named files) i ([], []) (rw length-map at.0)))

  -- no index was found
  pub file_of-missing : position (λ file. bytes_eq (string_bytes file.0) name) files ≡ None → file_of (named files) name ≡ None
  file_of-missing missing = ap (option_map (λ file. file.1)) (find-map (λ file. bytes_eq file.0 name) as_named files ∙ ap (option_map as_named) (none_at_position (λ file. bytes_eq (string_bytes file.0) name) files missing))
