-- Elements of lists by their numbers.
use Rattle.std.proofs.Common.{◌≡◌, ◌⊎◌, inl, inr, ⊎_elim, ℕ, zero, suc, ◌<◌, List, [], ◌∷◌, ◌++◌, length, map, refl, ap, subst, arith}
use Rattle.std.specs.Prelude.{Some, None, slice_get, Contains}
use Rattle.std.proofs.lemmas.List.Elements.{Contains-append_left, Contains-append_right, Contains-append_cases, Contains-push, Contains-push_cases}

pub none_in : {X : Type 0} (x : X) → Contains [] x → ⊥
none_in x h = absurd (omega (arith, h.1))

pub cons_cases : {X : Type 0} (y x : X) (xs : List X) → Contains (y ∷ xs) x → (y ≡ x) ⊎ Contains xs x
cons_cases y x xs h =
    ⊎_elim (λ c. ⊎_elim (λ d. absurd (none_in x d)) (λ e. inl e) (Contains-push_cases [] y x c)) (λ d. inr d) (Contains-append_cases (y ∷ []) xs x h)

pub cons_first : {X : Type 0} (x : X) (xs : List X) → Contains (x ∷ xs) x
cons_first x xs = Contains-append_left (x ∷ []) xs x (Contains-push [] x)

pub cons_rest : {X : Type 0} (y x : X) (xs : List X) → Contains xs x → Contains (y ∷ xs) x
cons_rest y x xs h = Contains-append_right (y ∷ []) xs x h

-- where an element stands
pub placed : {X : Type 0} (xs : List X) (x : X) → Contains xs x → (k : ℕ) × (k < length xs) × (slice_get xs k ≡ Some x)
placed [] x h = absurd (none_in x h)
placed (y ∷ ys) x h = ⊎_elim
    (λ e. (zero, omega arith, ap Some e))
    (λ more. let r = placed ys x more in (suc r.0, omega (arith, r.1), r.2))
    (cons_cases y x ys h)

-- a list before, at and behind one of its elements
pub record IsSplit {X : Type 0} (xs : List X) (k : ℕ) (x : X) : Type 0 where
  pub front : List X
  pub more : List X
  pub is : xs ≡ front ++ x ∷ more
  pub among : (m : ℕ) (y : X) → m < k → slice_get xs m ≡ Some y → Contains front y

pub split_at : {X : Type 0} (xs : List X) (k : ℕ) (x : X) → slice_get xs k ≡ Some x → IsSplit xs k x
split_at {X} [] k x there = absurd (none_there there)
  where
    none_there : None ≡ Some x → ⊥
    none_there e = cc
split_at {X} (y ∷ ys) zero x there = record { front = []; more = ys; is = ap (λ (z : X). z ∷ ys) (first_is there); among = λ m z l at. absurd (omega (arith, l)) }
  where
    first_is : Some y ≡ Some x → y ≡ x
    first_is e = cc
split_at {X} (y ∷ ys) (suc k) x there =
    let s = split_at ys k x there in
    record { front = y ∷ s.front; more = s.more; is = ap (λ (zs : List X). y ∷ zs) s.is; among = within s.front s.among }
  where
    within : (front : List X) → ((m : ℕ) (z : X) → m < k → slice_get ys m ≡ Some z → Contains front z) → (m : ℕ) (z : X) → m < suc k → slice_get (y ∷ ys) m ≡ Some z → Contains (y ∷ front) z
    within front among zero z l at = subst (λ (w : X). Contains (y ∷ front) w) (first_is at) (cons_first y front)
      where
        first_is : Some y ≡ Some z → y ≡ z
        first_is e = cc
    within front among (suc m) z l at = cons_rest y z front (among m z (omega (arith, l)) at)

pub at_length : {X : Type 0} (front more : List X) (x : X) → slice_get (front ++ x ∷ more) (length front) ≡ Some x
at_length [] more x = refl
at_length (y ∷ front) more x = at_length front more x

pub in_front : {X : Type 0} (front more : List X) (k : ℕ) (x : X) → slice_get front k ≡ Some x → slice_get (front ++ more) k ≡ Some x
in_front [] more k x e = absurd (none_there e)
  where
    none_there : None ≡ Some x → ⊥
    none_there e = cc
in_front (y ∷ front) more zero x e = e
in_front (y ∷ front) more (suc k) x e = in_front front more k x e

-- what a list of images has is the image of what stands there
pub imaged : {X Y : Type 0} (f : X → Y) (xs : List X) (k : ℕ) (y : Y) → slice_get (map f xs) k ≡ Some y → (x : X) × (slice_get xs k ≡ Some x) × (f x ≡ y)
imaged f [] k y e = absurd (none_there e)
  where
    none_there : None ≡ Some y → ⊥
    none_there e = cc
imaged f (x ∷ xs) zero y e = (x, refl, first_is e)
  where
    first_is : Some (f x) ≡ Some y → f x ≡ y
    first_is e = cc
imaged f (x ∷ xs) (suc k) y e = imaged f xs k y e

pub image_at : {X Y : Type 0} (f : X → Y) (xs : List X) (k : ℕ) (x : X) → slice_get xs k ≡ Some x → slice_get (map f xs) k ≡ Some (f x)
image_at f [] k x e = absurd (none_there e)
  where
    none_there : None ≡ Some x → ⊥
    none_there e = cc
image_at f (y ∷ xs) zero x e = ap Some (ap f (first_is e))
  where
    first_is : Some y ≡ Some x → y ≡ x
    first_is e = cc
image_at f (y ∷ xs) (suc k) x e = image_at f xs k x e
