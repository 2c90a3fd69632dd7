-- What stands at a place, by the number of the place.
use Rattle.std.proofs.Common.{◌≡◌, ℕ, suc, refl, sym, ap, ◌∙◌, arith, List, [], ◌∷◌, Bool, true, false, cond, length, get_or, nat_lt, Bor}
use Rattle.std.specs.Prelude.{map, Option, Some, None, IfSome, is_some, slice_get, if◌then◌else◌}
use Rattle.std.specs.List.{find}
use Rattle.std.specs.Option.{option_map, option_and_then}
use Rattle.std.proofs.lemmas.Option.{slice_get_past, slice_get_read}
use Rattle.pst_base.specs.declared.position.Place.{Place}
use Rattle.pst_ast.specs.Sorts.{same_place}
use Rattle.pst_places.specs.Numbers.{number_in, number_from}

-- counting from one more gives one more
one_more_if : (n : ℕ) (more : List Place) (p : Place) (b : Bool) → number_from (suc (suc n)) more p ≡ option_map (λ m. suc m) (number_from (suc n) more p)
    → (if b then Some (suc n) else number_from (suc (suc n)) more p) ≡ option_map (λ m. suc m) (if b then Some n else number_from (suc n) more p)
one_more_if n more p true later = refl
one_more_if n more p false later = later

one_more : (n : ℕ) (places : List Place) (p : Place) → number_from (suc n) places p ≡ option_map (λ m. suc m) (number_from n places p)
one_more n [] p = refl
one_more n (q ∷ more) p = one_more_if n more p (same_place q p) (one_more (suc n) more p)

module _ {X Y : Type 0} (view : X → Y) (place_of : Y → Place) where
  by_number : List X → Option ℕ → Option Y
  by_number xs number = option_map view (option_and_then (λ n. slice_get xs n) number)

  behind : (x : X) (xs : List X) (number : Option ℕ) → by_number xs number ≡ by_number (x ∷ xs) (option_map (λ m. suc m) number)
  unfolding by_number
  behind x xs None = refl
  behind x xs (Some n) = refl

  found_if : (x : X) (xs : List X) (p : Place) (b : Bool) → find (λ y. same_place (place_of y) p) (map view xs) ≡ by_number xs (number_from 0 (map (λ x. place_of (view x)) xs) p)
      → cond b (Some (view x)) (find (λ y. same_place (place_of y) p) (map view xs)) ≡ by_number (x ∷ xs) (if b then Some 0 else number_from 1 (map (λ x. place_of (view x)) xs) p)
  unfolding by_number
  found_if x xs p true later = refl
  found_if x xs p false later =
      later ∙ (behind x xs (number_from 0 (map (λ x. place_of (view x)) xs) p) ∙ ap (by_number (x ∷ xs)) (sym (one_more 0 (map (λ x. place_of (view x)) xs) p)))

  found : (xs : List X) (p : Place) → find (λ y. same_place (place_of y) p) (map view xs) ≡ by_number xs (number_from 0 (map (λ x. place_of (view x)) xs) p)
  unfolding by_number
  found [] p = refl
  found (x ∷ xs) p = found_if x xs p (same_place (place_of (view x)) p) (found xs p)

  found_in : (xs : List X) (places : List Place) (p : Place) (number : Option ℕ) → places ≡ map (λ x. place_of (view x)) xs → number_in places p ≡ number
      → find (λ y. same_place (place_of y) p) (map view xs) ≡ by_number xs number
  unfolding number_in
  found_in xs places p number are is = found xs p ∙ ap (by_number xs) (ap (λ ps. number_from 0 ps p) (sym are) ∙ is)

  -- what is found at a place is what has the number of the place
  pub found_none : (xs : List X) (places : List Place) (p : Place) → places ≡ map (λ x. place_of (view x)) xs → number_in places p ≡ None → None ≡ find (λ y. same_place (place_of y) p) (map view xs)
  unfolding by_number
  found_none xs places p are is = sym (found_in xs places p None are is)

  pub found_some : (xs : List X) (places : List Place) (p : Place) (n : ℕ) (item : Option X) → places ≡ map (λ x. place_of (view x)) xs → number_in places p ≡ Some n → item ≡ slice_get xs n
      → option_map view item ≡ find (λ y. same_place (place_of y) p) (map view xs)
  unfolding by_number
  found_some xs places p n item are is at = ap (option_map view) at ∙ sym (found_in xs places p (Some n) are is)

-- what is lent of a list
pub lent : {X : Type 0} (xs : List X) (n : ℕ) (item : Option (Bor X)) → is_some item ≡ nat_lt n (length xs) → IfSome item (λ x. x.now ≡ get_or xs n x.now) → option_map (λ x. x.now) item ≡ slice_get xs n
lent {X} xs n None is value = sym (slice_get_past xs n (grind (arith, is)))
lent {X} xs n (Some x) is value = sym (slice_get_read xs (length xs) n x.now refl (grind (arith, is)) value)

pub view_lent : {X Y : Type 0} (view : X → Y) (item : Option (Bor X)) → option_map (λ x. view x.now) item ≡ option_map view (option_map (λ x. x.now) item)
view_lent view None = refl
view_lent view (Some x) = refl
