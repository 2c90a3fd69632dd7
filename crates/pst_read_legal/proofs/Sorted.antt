-- The needs stand in the order of actions and references.
use Rattle.std.proofs.Common.{◌≡◌, ℕ, ◌+◌, ◌<◌, ◌≤◌, List, [], ◌∷◌, ◌++◌, map, Bool, true, false, cond, refl, sym, ap, subst, arith, inl, inr, ⊎_elim}
use Rattle.std.specs.Prelude.{flat_map}
use Rattle.std.specs.List.{enumerate_from, filter}
use Rattle.pst_scen.specs.declared.act.Act.{Act}
use Rattle.pst_scen.specs.declared.act.Filled.{Filled}
use Rattle.pst_legal.specs.Supplied.{is_need, Linking, linkings_in, linkings}
use Rattle.pst_built.proofs.Members.{In, in_append, in_map, in_flat_map, in_filter}
use Rattle.pst_built.proofs.Splits.{IsEarlier, linking_at}

-- each element stands before all later ones
abbrev pub Sorted : {A : Type 0} → (A → A → Type 0) → List A → Type 0
Sorted R [] = Unit {0}
Sorted {A} R (x ∷ xs) = ((y : A) → In y xs → R x y) × Sorted R xs

numbers_from : {A : Type 0} (k : ℕ) (xs : List A) (e : ℕ × A) → In e (enumerate_from k xs) → k ≤ e.0
numbers_from k [] e has = absurd has
numbers_from k (x ∷ xs) e (inl same) = let here : k ≡ e.0 = ap (λ p. p.0) same in omega (arith, here)
numbers_from k (x ∷ xs) e (inr has) = let r = numbers_from (k + 1) xs e has in omega (arith, r)

numbered_sorted : {A : Type 0} (k : ℕ) (xs : List A) → Sorted (λ (e f : ℕ × A). e.0 < f.0) (enumerate_from k xs)
numbered_sorted k [] = tt
numbered_sorted k (x ∷ xs) = (λ e has. let r = numbers_from (k + 1) xs e has in omega (arith, r), numbered_sorted (k + 1) xs)

filter_sorted : {A : Type 0} (R : A → A → Type 0) (test : A → Bool) (xs : List A) → Sorted R xs → Sorted R (filter test xs)
filter_sorted R test [] sorted = tt
filter_sorted {A = A} R test (x ∷ xs) sorted = by (test x) (filter_sorted R test xs sorted.1)
  where
    by : (b : Bool) → Sorted R (filter test xs) → Sorted R (cond b (x ∷ filter test xs) (filter test xs))
    by true rest = (λ y has. sorted.0 y (in_filter test xs y has).0, rest)
    by false rest = rest

map_sorted : {A B : Type 0} (R : A → A → Type 0) (Q : B → B → Type 0) (f : A → B) (xs : List A) → ((x y : A) → R x y → Q (f x) (f y)) → Sorted R xs → Sorted Q (map f xs)
map_sorted R Q f [] each sorted = tt
map_sorted R Q f (x ∷ xs) each sorted = (λ y has. let i = in_map f xs y has in subst (Q (f x)) i.2 (each x i.0 (sorted.0 i.0 i.1)), map_sorted R Q f xs each sorted.1)

append_sorted : {A : Type 0} (R : A → A → Type 0) (xs ys : List A) → Sorted R xs → Sorted R ys → ((x y : A) → In x xs → In y ys → R x y) → Sorted R (xs ++ ys)
append_sorted R [] ys one other across = other
append_sorted R (x ∷ xs) ys one other across =
    (λ y has. ⊎_elim (λ first. one.0 y first) (λ second. across x y (inl refl) second) (in_append xs ys y has), append_sorted R xs ys one.1 other (λ a b has at. across a b (inr has) at))

flat_sorted : {A B : Type 0} (R : A → A → Type 0) (Q : B → B → Type 0) (f : A → List B) (xs : List A) → ((x : A) → Sorted Q (f x)) → ((x y : A) (a b : B) → R x y → In a (f x) → In b (f y) → Q a b) → Sorted R xs → Sorted Q (flat_map f xs)
flat_sorted R Q f [] each across sorted = tt
flat_sorted R Q f (x ∷ xs) each across sorted =
    append_sorted Q (f x) (flat_map f xs) (each x) (flat_sorted R Q f xs each across sorted.1)
    (λ a b has at. let i = in_flat_map f xs b at in across x i.0 a b (sorted.0 i.0 i.1) has i.2)

abbrev pub IsBefore : Linking → Linking → Type 0
IsBefore x y = IsEarlier x.act x.reference y.act y.reference

row_act : (e : ℕ × Act) (z : Linking) → In z (linkings_in e) → z.act ≡ e.0
row_act e z has = let i = in_map (λ (f : ℕ × Filled). linking_at e.0 f.0 f.1) (filter (λ f. is_need f.1.flow) (enumerate_from 0 e.1.references)) z has in ap (λ (y : Linking). y.act) (sym i.2)

pub linkings_sorted : (acts : List Act) → Sorted IsBefore (linkings acts)
linkings_sorted acts =
    flat_sorted (λ (e f : ℕ × Act). e.0 < f.0) IsBefore linkings_in (enumerate_from 0 acts)
    (λ e. map_sorted (λ (f g : ℕ × Filled). f.0 < g.0) IsBefore (λ (f : ℕ × Filled). linking_at e.0 f.0 f.1) (filter (λ f. is_need f.1.flow) (enumerate_from 0 e.1.references)) (λ f g l. inr (refl, l))
    (filter_sorted (λ (f g : ℕ × Filled). f.0 < g.0) (λ f. is_need f.1.flow) (enumerate_from 0 e.1.references) (numbered_sorted 0 e.1.references)))
    (λ e f x y l has at. let p = row_act e x has in let q = row_act f y at in inl (omega (arith, l, p, q)))
    (numbered_sorted 0 acts)
