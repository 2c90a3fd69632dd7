-- Lists that are cut at an element, and what stands before it.
use Rattle.std.proofs.Common.{◌≡◌, ◌⊎◌, ℕ, zero, suc, ◌+◌, ◌<◌, List, [], ◌∷◌, ◌++◌, map, Bool, true, false, cond, Some, refl, sym, ap, ◌∙◌, subst, arith, append_assoc, inl, inr, ⊎_elim}
use Rattle.std.specs.Prelude.{slice_get, flat_map}
use Rattle.std.specs.List.{enumerate_from, filter, find}
use Rattle.std.specs.Option.{option_and_then}
use Rattle.std.proofs.lemmas.List.{map-append}
use Rattle.std.proofs.lemmas.Option.{none-some, same_Some, option_and_then_some}
use Rattle.pst_scen.specs.declared.act.Act.{Act}
use Rattle.pst_scen.specs.declared.act.Filled.{Filled}
use Rattle.pst_scen.specs.Scenarios.{reference_at}
use Rattle.pst_legal.specs.Supplied.{is_need, Linking, linkings_in, linkings}
use Rattle.pst_legal.specs.SupplyReading.{Spot, spots_in, spots}
use Rattle.pst_built.proofs.Members.{In, in_map, in_append, in_flat_map, in_numbered, in_filter}

-- the list is cut at the element, and P holds of what stands before it
pub record Cut {A : Type 0} (P : A → Type 0) (xs : List A) (x : A) : Type 0 where
  pub front : List A
  pub back : List A
  pub is : xs ≡ front ++ x ∷ back
  pub before : (y : A) → In y front → P y

cut_numbered : {A : Type 0} (k : ℕ) (xs : List A) (i : ℕ) (x : A) → slice_get xs i ≡ Some x → Cut (λ e. e.0 < k + i) (enumerate_from k xs) (k + i, x)
cut_numbered k [] i x is = absurd (none-some x is)
cut_numbered k (y ∷ ys) zero x is =
    let here : k ≡ k + zero = omega arith in
    record { front = []; back = enumerate_from (k + 1) ys; is = ap (λ e. e ∷ enumerate_from (k + 1) ys) (λ j. (here j, same_Some y x is j)); before = λ e has. absurd has }
cut_numbered k (y ∷ ys) (suc i) x is =
    let c = cut_numbered (k + 1) ys i x is in
    let here : (k + 1) + i ≡ k + suc i = omega arith in
    let same = ap (λ es. (k, y) ∷ es) c.is ∙ ap (λ n. (k, y) ∷ (c.front ++ (n, x) ∷ c.back)) here in
    record {
      front = (k, y) ∷ c.front;
      back = c.back;
      is = same;
      before = λ e has. ⊎_elim (λ (first : (k, y) ≡ e). let at : k ≡ e.0 = ap (λ p. p.0) first in let l : e.0 < k + suc i = omega (arith, at) in l)
          (λ (more : In e c.front). let l = c.before e more in let r : e.0 < k + suc i = omega (arith, l) in r) has;
    }

cut_map : {A B : Type 0} (P : A → Type 0) (Q : B → Type 0) (f : A → B) (xs : List A) (x : A) → Cut P xs x → ((y : A) → P y → Q (f y)) → Cut Q (map f xs) (f x)
cut_map P Q f xs x c each = record {
  front = map f c.front;
  back = map f c.back;
  is = ap (map f) c.is ∙ map-append f c.front (x ∷ c.back);
  before = λ z has. let i = in_map f c.front z has in subst Q i.2 (each i.0 (c.before i.0 i.1));
}

filter_append : {A : Type 0} (test : A → Bool) (xs ys : List A) → filter test (xs ++ ys) ≡ filter test xs ++ filter test ys
filter_append test [] ys = refl
filter_append test (x ∷ xs) ys = by (test x) (filter_append test xs ys)
  where
    by : (b : Bool) → filter test (xs ++ ys) ≡ filter test xs ++ filter test ys → cond b (x ∷ filter test (xs ++ ys)) (filter test (xs ++ ys)) ≡ cond b (x ∷ filter test xs) (filter test xs) ++ filter test ys
    by true e = ap (λ zs. x ∷ zs) e
    by false e = e

cut_filter : {A : Type 0} (P : A → Type 0) (test : A → Bool) (xs : List A) (x : A) → Cut P xs x → test x ≡ true → Cut P (filter test xs) x
cut_filter P test xs x c passes = record {
  front = filter test c.front;
  back = filter test c.back;
  is = ap (filter test) c.is ∙ filter_append test c.front (x ∷ c.back) ∙ ap (λ b. filter test c.front ++ cond b (x ∷ filter test c.back) (filter test c.back)) passes;
  before = λ z has. c.before z (in_filter test c.front z has).0;
}

flat_append : {A B : Type 0} (f : A → List B) (xs ys : List A) → flat_map f (xs ++ ys) ≡ flat_map f xs ++ flat_map f ys
flat_append f [] ys = refl
flat_append f (x ∷ xs) ys = ap (λ zs. f x ++ zs) (flat_append f xs ys) ∙ sym (append_assoc (f x) (flat_map f xs) (flat_map f ys))

cut_flat : {A B : Type 0} (P : A → Type 0) (Q R : B → Type 0) (f : A → List B) (xs : List A) (x : A) (y : B) → Cut P xs x → Cut Q (f x) y → ((e : A) (z : B) → P e → In z (f e) → R z) → ((z : B) → Q z → R z) → Cut R (flat_map f xs) y
cut_flat P Q R f xs x y c d early near = record {
  front = flat_map f c.front ++ d.front;
  back = d.back ++ flat_map f c.back;
  is = ap (flat_map f) c.is ∙ flat_append f c.front (x ∷ c.back)
      ∙ ap (λ zs. flat_map f c.front ++ (zs ++ flat_map f c.back)) d.is
      ∙ ap (λ zs. flat_map f c.front ++ zs) (append_assoc d.front (y ∷ d.back) (flat_map f c.back))
      ∙ sym (append_assoc (flat_map f c.front) d.front (y ∷ (d.back ++ flat_map f c.back)));
  before = λ z has.
      ⊎_elim (λ (first : In z (flat_map f c.front)). let i = in_flat_map f c.front z first in early i.0 z (c.before i.0 i.1) i.2)
      (λ (more : In z d.front). near z (d.before z more)) (in_append (flat_map f c.front) d.front z has);
}

-- ---- references in order

abbrev pub IsEarlier : ℕ → ℕ → ℕ → ℕ → Type 0
IsEarlier a r b q = (a < b) ⊎ ((a ≡ b) × (r < q))

abbrev pub spot_at : ℕ → ℕ → Filled → Spot
spot_at a r filled = record { act = a; reference = r; filled = filled }

abbrev pub linking_at : ℕ → ℕ → Filled → Linking
linking_at a r filled = record { act = a; reference = r; link = filled.link }

pub cut_spots : (acts : List Act) (a r : ℕ) (filled : Filled) → reference_at acts a r ≡ Some filled → Cut (λ z. IsEarlier z.act z.reference a r) (spots acts) (spot_at a r filled)
cut_spots acts a r filled is =
    option_and_then_some (λ (x : Act). slice_get x.references r) (slice_get acts a) filled is
    (λ act there has.
    let za : 0 + a ≡ a = omega arith in
    let zr : 0 + r ≡ r = omega arith in
    let make : ℕ × Filled → Spot = λ e. spot_at a e.0 e.1 in
    let outer = subst (λ n. Cut (λ e. e.0 < n) (enumerate_from 0 acts) (n, act)) za (cut_numbered 0 acts a act there) in
    let inner = subst (λ n. Cut (λ e. e.0 < n) (enumerate_from 0 act.references) (n, filled)) zr (cut_numbered 0 act.references r filled has) in
    cut_flat (λ e. e.0 < a) (λ z. IsEarlier z.act z.reference a r) (λ z. IsEarlier z.act z.reference a r) spots_in (enumerate_from 0 acts) (a, act) (spot_at a r filled) outer
    (cut_map (λ e. e.0 < r) (λ z. IsEarlier z.act z.reference a r) make (enumerate_from 0 act.references) (r, filled) inner (λ e l. inr (refl, l)))
    (λ e z l has. let i = in_map (λ x. spot_at e.0 x.0 x.1) (enumerate_from 0 e.1.references) z has in subst (λ (z : Spot). IsEarlier z.act z.reference a r) i.2 (inl l))
    (λ z early. early))

pub cut_linkings : (acts : List Act) (a r : ℕ) (filled : Filled) → reference_at acts a r ≡ Some filled → is_need filled.flow ≡ true → Cut (λ z. IsEarlier z.act z.reference a r) (linkings acts) (linking_at a r filled)
cut_linkings acts a r filled is need =
    option_and_then_some (λ (x : Act). slice_get x.references r) (slice_get acts a) filled is
    (λ act there has.
    let za : 0 + a ≡ a = omega arith in
    let zr : 0 + r ≡ r = omega arith in
    let test : ℕ × Filled → Bool = λ e. is_need e.1.flow in
    let make : ℕ × Filled → Linking = λ e. linking_at a e.0 e.1 in
    let outer = subst (λ n. Cut (λ e. e.0 < n) (enumerate_from 0 acts) (n, act)) za (cut_numbered 0 acts a act there) in
    let inner = subst (λ n. Cut (λ e. e.0 < n) (enumerate_from 0 act.references) (n, filled)) zr (cut_numbered 0 act.references r filled has) in
    let passed = cut_filter (λ e. e.0 < r) test (enumerate_from 0 act.references) (r, filled) inner need in
    cut_flat (λ e. e.0 < a) (λ z. IsEarlier z.act z.reference a r) (λ z. IsEarlier z.act z.reference a r) linkings_in (enumerate_from 0 acts) (a, act) (linking_at a r filled) outer
    (cut_map (λ e. e.0 < r) (λ z. IsEarlier z.act z.reference a r) make (filter test (enumerate_from 0 act.references)) (r, filled) passed (λ e l. inr (refl, l)))
    (λ e z l has. let i = in_map (λ x. linking_at e.0 x.0 x.1) (filter (λ x. is_need x.1.flow) (enumerate_from 0 e.1.references)) z has in subst (λ (z : Linking). IsEarlier z.act z.reference a r) i.2 (inl l))
    (λ z early. early))

-- each of them is a need's
pub in_linkings : (acts : List Act) (z : Linking) → In z (linkings acts) → (filled : Filled) × (reference_at acts z.act z.reference ≡ Some filled) × (is_need filled.flow ≡ true) × (z.link ≡ filled.link)
in_linkings acts z has =
    let f = in_flat_map linkings_in (enumerate_from 0 acts) z has in
    let e = f.0 in
    let test : ℕ × Filled → Bool = λ x. is_need x.1.flow in
    let g = in_map (λ x. linking_at e.0 x.0 x.1) (filter test (enumerate_from 0 e.1.references)) z f.2 in
    let h = in_filter test (enumerate_from 0 e.1.references) g.0 g.1 in
    let at : reference_at acts e.0 g.0.0 ≡ Some g.0.1 = ap (λ v. option_and_then (λ (x : Act). slice_get x.references g.0.0) v) (in_numbered acts e f.1) ∙ in_numbered e.1.references g.0 h.0 in
    (g.0.1, ap (λ (y : Linking). reference_at acts y.act y.reference) (sym g.2) ∙ at, h.1, ap (λ (y : Linking). y.link) (sym g.2))

-- ---- the first that passes

find_in_front : {A : Type 0} (test : A → Bool) (xs ys : List A) (y z : A) → test y ≡ true → find test (xs ++ y ∷ ys) ≡ Some z → In z xs ⊎ (y ≡ z)
find_in_front test [] ys y z passes e = inr (same_Some y z (sym (ap (λ b. cond b (Some y) (find test ys)) passes) ∙ e))
find_in_front test (x ∷ xs) ys y z passes e = by (test x) e (find_in_front test xs ys y z passes)
  where
    by : (b : Bool) → cond b (Some x) (find test (xs ++ y ∷ ys)) ≡ Some z → (find test (xs ++ y ∷ ys) ≡ Some z → In z xs ⊎ (y ≡ z)) → In z (x ∷ xs) ⊎ (y ≡ z)
    by true e rest = inl (inl (same_Some x z e))
    by false e rest = ⊎_elim (λ h. inl (inr h)) (λ h. inr h) (rest e)

not_both : (a r b q : ℕ) → IsEarlier a r b q → IsEarlier b q a r → ⊥
not_both a r b q (inl l) (inl k) = omega (arith, l, k)
not_both a r b q (inl l) (inr k) = omega (arith, l, k.0)
not_both a r b q (inr l) (inl k) = omega (arith, l.0, k)
not_both a r b q (inr l) (inr k) = omega (arith, l.1, k.1)

not_itself : (a r : ℕ) → IsEarlier a r a r → ⊥
not_itself a r (inl l) = omega (arith, l)
not_itself a r (inr l) = omega (arith, l.1)

-- no earlier one passes
pub first_found : (test : Spot → Bool) (acts : List Act) (need : Spot) (b q : ℕ) (filled : Filled) → find test (spots acts) ≡ Some need → reference_at acts b q ≡ Some filled → IsEarlier b q need.act need.reference → test (spot_at b q filled) ≡ true → ⊥
first_found test acts need b q filled e is early passes =
    let c = cut_spots acts b q filled is in
    ⊎_elim (λ (has : In need c.front). not_both need.act need.reference b q (c.before need has) early)
    (λ (same : spot_at b q filled ≡ need). not_itself b q (subst (λ (z : Spot). IsEarlier b q z.act z.reference) (sym same) early))
    (find_in_front test c.front c.back (spot_at b q filled) need passes (sym (ap (find test) c.is) ∙ e))
