-- Elements of lists.
use Rattle.std.proofs.Common.{◌≡◌, ◌⊎◌, List, [], ◌∷◌, inl, inr, ⊎_elim, sym, subst, arith}
use Rattle.std.specs.Prelude.{Contains}
use Rattle.std.specs.List.{flat_map}
use Rattle.std.proofs.lemmas.List.Elements.{Contains-append_left, Contains-append_right, Contains-append_cases, Contains-push, Contains-push_cases}

pub none_in : {X : Type 0} (x : X) → Contains [] x → ⊥
none_in x h = absurd (omega (arith, h.1))

pub cons_cases : {X : Type 0} (y x : X) (xs : List X) → Contains (y ∷ xs) x → (y ≡ x) ⊎ Contains xs x
cons_cases y x xs h =
    ⊎_elim (λ c. ⊎_elim (λ d. absurd (none_in x d)) (λ e. inl e) (Contains-push_cases [] y x c)) (λ d. inr d) (Contains-append_cases (y ∷ []) xs x h)

pub cons_first : {X : Type 0} (x : X) (xs : List X) → Contains (x ∷ xs) x
cons_first x xs = Contains-append_left (x ∷ []) xs x (Contains-push [] x)

pub cons_rest : {X : Type 0} (y x : X) (xs : List X) → Contains xs x → Contains (y ∷ xs) x
cons_rest y x xs h = Contains-append_right (y ∷ []) xs x h

-- what one element of a list gives is given by the list
pub in_flat_map : {X Y : Type 0} (f : X → List Y) (xs : List X) (x : X) (y : Y) → Contains xs x → Contains (f x) y → Contains (flat_map f xs) y
in_flat_map f [] x y among there = absurd (none_in x among)
in_flat_map f (z ∷ zs) x y among there = ⊎_elim
    (λ e. Contains-append_left (f z) (flat_map f zs) y (subst (λ w. Contains (f w) y) (sym e) there))
    (λ more. Contains-append_right (f z) (flat_map f zs) y (in_flat_map f zs x y more there))
    (cons_cases z x zs among)

pub flat_map_cases : {X Y : Type 0} (f : X → List Y) (xs : List X) (y : Y) → Contains (flat_map f xs) y → (x : X) × Contains xs x × Contains (f x) y
flat_map_cases f [] y there = absurd (none_in y there)
flat_map_cases f (z ∷ zs) y there = ⊎_elim
    (λ first. (z, cons_first z zs, first))
    (λ later. let more = flat_map_cases f zs y later in (more.0, cons_rest z more.0 zs more.1, more.2))
    (Contains-append_cases (f z) (flat_map f zs) y there)
