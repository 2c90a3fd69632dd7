-- Lists of which each element is of a kind, and lists that are picked from others.
use Rattle.std.proofs.Common.{◌≡◌, List, [], ◌∷◌, map, Bool, true, false, not, ◌&&◌, ◌||◌, if◌then◌else◌, refl, sym, ap, ◌∙◌}
use Rattle.std.specs.List.{filter, list_any}
use Rattle.std.proofs.lemmas.Bool.{false≢true}
use Rattle.pst_open_ends.proofs.Lookups.{Each}

pub each_so : {A : Type 0} (P Q : A → Type 0) (xs : List A) → ((x : A) → P x → Q x) → Each P xs → Each Q xs
each_so P Q [] f h = tt
each_so P Q (x ∷ xs) f h = (f x h.0, each_so P Q xs f h.1)

pub each_map : {A B : Type 0} (P : B → Type 0) (f : A → B) (xs : List A) → Each (λ x. P (f x)) xs → Each P (map f xs)
each_map P f [] h = tt
each_map P f (x ∷ xs) h = (h.0, each_map P f xs h.1)

pub both_each : {A : Type 0} (P Q : A → Type 0) (xs : List A) → Each P xs → Each Q xs → Each (λ x. P x × Q x) xs
both_each P Q [] p q = tt
both_each P Q (x ∷ xs) p q = ((p.0, q.0), both_each P Q xs p.1 q.1)

pub and_never : (b : Bool) → (b && false) ≡ false
and_never true = refl
and_never false = refl

pub and_always : (b : Bool) → (b && true) ≡ b
and_always true = refl
and_always false = refl

pub or_never : (b : Bool) → (b || false) ≡ b
or_never true = refl
or_never false = refl

pub or_always : (b : Bool) → (b || true) ≡ true
or_always true = refl
or_always false = refl

-- none passes
pub none_passes : {A : Type 0} (t : A → Bool) (xs : List A) → Each (λ x. t x ≡ false) xs → list_any t xs ≡ false
none_passes t [] h = refl
none_passes t (x ∷ xs) h = ap (λ b. b || list_any t xs) h.0 ∙ none_passes t xs h.1

-- ---- what is picked

-- the same tests pick the same
pub picks_same : {A : Type 0} (t u : A → Bool) (xs : List A) → Each (λ x. t x ≡ u x) xs → filter t xs ≡ filter u xs
picks_same t u [] h = refl
picks_same t u (x ∷ xs) h = ap (λ b. if b then x ∷ filter t xs else filter t xs) h.0 ∙ ap (λ l. if u x then x ∷ l else l) (picks_same t u xs h.1)

pub picks_all : {A : Type 0} (t : A → Bool) (xs : List A) → ((x : A) → t x ≡ true) → filter t xs ≡ xs
picks_all t [] h = refl
picks_all t (x ∷ xs) h = ap (λ b. if b then x ∷ filter t xs else filter t xs) (h x) ∙ ap (λ l. x ∷ l) (picks_all t xs h)

pub pick_if : {A : Type 0} (u : A → Bool) (b : Bool) (x : A) (xs : List A) → filter u (if b then x ∷ xs else xs) ≡ (if b then (if u x then x ∷ filter u xs else filter u xs) else filter u xs)
pick_if u true x xs = refl
pick_if u false x xs = refl

swap : {A : Type 0} (b c : Bool) (x : A) (xs : List A) → (if b then (if c then x ∷ xs else xs) else xs) ≡ (if c then (if b then x ∷ xs else xs) else xs)
swap true true x xs = refl
swap true false x xs = refl
swap false true x xs = refl
swap false false x xs = refl

-- which of two tests picks first doesn't matter
pub picks_swap : {A : Type 0} (u v : A → Bool) (xs : List A) → filter u (filter v xs) ≡ filter v (filter u xs)
picks_swap u v [] = refl
picks_swap u v (x ∷ xs) =
    pick_if u (v x) x (filter v xs)
    ∙ ap (λ l. if v x then (if u x then x ∷ l else l) else l) (picks_swap u v xs)
    ∙ swap (v x) (u x) x (filter v (filter u xs))
    ∙ sym (pick_if v (u x) x (filter u xs))

-- ---- what is picked of changed elements

pub map_if : {A B : Type 0} (f : A → B) (b : Bool) (x : A) (xs : List A) → map f (if b then x ∷ xs else xs) ≡ (if b then f x ∷ map f xs else map f xs)
map_if f true x xs = refl
map_if f false x xs = refl

nested : {A : Type 0} (b c : Bool) (x : A) (xs : List A) → (if b && c then x ∷ xs else xs) ≡ (if b then (if c then x ∷ xs else xs) else xs)
nested true c x xs = refl
nested false c x xs = refl

module _ {A B : Type 0} (name : A → B) (change : A → A) (t new : A → Bool) (u : B → Bool) (stays : (x : A) → name (change x) ≡ name x) (tests : (x : A) → new (change x) ≡ (t x && u (name x))) where
  pub picks_changed : (xs : List A) → map name (filter new (map change xs)) ≡ filter u (map name (filter t xs))
  picks_changed [] = refl
  picks_changed (x ∷ xs) =
      let rest = map name (filter t xs) in
      map_if name (new (change x)) (change x) (filter new (map change xs))
      ∙ ap (λ y. if new (change x) then y ∷ map name (filter new (map change xs)) else map name (filter new (map change xs))) (stays x)
      ∙ ap (λ l. if new (change x) then name x ∷ l else l) (picks_changed xs)
      ∙ ap (λ b. if b then name x ∷ filter u rest else filter u rest) (tests x)
      ∙ nested (t x) (u (name x)) (name x) (filter u rest)
      ∙ sym (pick_if u (t x) (name x) rest)
      ∙ ap (filter u) (sym (map_if name (t x) x (filter t xs)))

-- an element that isn't picked is passed over
pub picks_others : {A : Type 0} {B : Type 0} (name : A → B) (t : A → Bool) (u : B → Bool) (xs : List A) → Each (λ x. u (name x) ≡ true → t x ≡ false) xs → filter (λ y. not (u y)) (map name (filter t xs)) ≡ map name (filter t xs)
picks_others name t u [] h = refl
picks_others {B = B} name t u (x ∷ xs) h = go (t x) (u (name x)) refl refl (picks_others name t u xs h.1)
  where
    rest : List B
    rest = map name (filter t xs)

    pass : (b c : Bool) → t x ≡ b → u (name x) ≡ c → filter (λ y. not (u y)) rest ≡ rest → filter (λ y. not (u y)) (map name (if b then x ∷ filter t xs else filter t xs)) ≡ map name (if b then x ∷ filter t xs else filter t xs)
    pass true true e f k = absurd (false≢true (sym (h.0 f) ∙ e))
    pass true false e f k = ap (λ d. if not d then name x ∷ filter (λ y. not (u y)) rest else filter (λ y. not (u y)) rest) f ∙ ap (λ l. name x ∷ l) k
    pass false c e f k = k

    go : (b c : Bool) → t x ≡ b → u (name x) ≡ c → filter (λ y. not (u y)) rest ≡ rest → filter (λ y. not (u y)) (map name (if t x then x ∷ filter t xs else filter t xs)) ≡ map name (if t x then x ∷ filter t xs else filter t xs)
    go b c e f k =
        ap (λ d. filter (λ y. not (u y)) (map name (if d then x ∷ filter t xs else filter t xs))) e
        ∙ pass b c e f k
        ∙ ap (λ d. map name (if d then x ∷ filter t xs else filter t xs)) (sym e)
