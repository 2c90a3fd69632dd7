-- What is found first in lists one behind another.
use Rattle.std.proofs.Common.{◌≡◌, ℕ, zero, suc, ◌+◌, ◌<◌, ◌≤◌, List, [], ◌∷◌, ◌++◌, map, length, get_or, drop, drop-cons, add-one, Bool, true, false, ◌||◌, nat_lt, Option, Some, None, refl, sym, ap, ◌∙◌, subst, arith}
use Rattle.std.specs.Prelude.{if◌then◌else◌, slice_get}
use Rattle.std.specs.List.{find, filter}
use Rattle.std.specs.Option.{option_map}
use Rattle.std.proofs.lemmas.Bool.{ltb-true, ltb-false}
use Rattle.std.proofs.lemmas.Option.{none-some}
use Rattle.std.proofs.lemmas.List.{map-append, drop_all}
use Rattle.std.proofs.lemmas.List.Elements.{filter-append}
use Rattle.pst_scen.specs.declared.act.Act.{Act}
use Rattle.pst_legal.specs.Binds.{Bound}
use Rattle.pst_legal.specs.SupplyReading.{Spot, spots_in, spots}
use Rattle.pst_open_ends.specs.declared.spot.Spot.{Spot as Kept}
use Rattle.pst_open_ends.specs.Spots.{kept_spot, spots_of, spots_from}
use Rattle.pst_open_ends.specs.Turns.{turns, AreDone}

abbrev pub or_else : {A : Type 0} → Option A → Option A → Option A
or_else None y = y
or_else (Some x) y = Some x

pub find_append : {A : Type 0} (t : A → Bool) (xs ys : List A) → find t (xs ++ ys) ≡ or_else (find t xs) (find t ys)
find_append t [] ys = refl
find_append {A = A} t (x ∷ xs) ys = go (t x) (find_append t xs ys)
  where
    go : (b : Bool) → find t (xs ++ ys) ≡ or_else (find t xs) (find t ys) → (if b then Some x else find t (xs ++ ys)) ≡ or_else (if b then Some x else find t xs) (find t ys)
    go true e = refl
    go false e = e

-- where none is found in the first actions, it is found among the others
pub done_from : (t : Spot → Bool) (acts : List Act) (k n m : ℕ) → m ≡ k + n
    → ((i j : ℕ) (act : Act) → i ≡ k + j → j < n → slice_get acts j ≡ Some act → find t (spots_in (i, act)) ≡ None)
    → find t (spots_from k acts) ≡ find t (spots_from m (drop n acts))
done_from t acts k zero m e h = let z : k ≡ m = omega arith in ap (λ i. find t (spots_from i acts)) z
done_from t [] k (suc n) m e h = refl
done_from t (act ∷ acts) k (suc n) m e h =
    find_append t (spots_in (k, act)) (spots_from (k + 1) acts)
    ∙ ap (λ o. or_else o (find t (spots_from (k + 1) acts))) (h k 0 act (omega arith) (omega arith) refl)
    ∙ done_from t acts (k + 1) n m (omega arith) (λ i j x a l s. h i (suc j) x (omega arith) (omega arith) s)

-- ---- one action after another

acts_from : (acts : List Act) (i : ℕ) (x : Act) → i < length acts → x ≡ get_or acts i x → spots_from i (drop i acts) ≡ spots_of i 0 x.references ++ spots_from (i + 1) (drop (i + 1) acts)
acts_from acts i x l e =
    ap (spots_from i) (drop-cons acts i x l)
    ∙ ap (λ y. spots_of i 0 y.references ++ spots_from (i + 1) (drop (suc i) acts)) (sym e)
    ∙ ap (λ n. spots_of i 0 x.references ++ spots_from (i + 1) (drop n acts)) (sym (add-one i))

pub or_assoc : (a b c : Bool) → ((a || b) || c) ≡ (a || (b || c))
or_assoc true b c = refl
or_assoc false b c = refl

pub kept_append : {A B : Type 0} (f : A → B) (t : A → Bool) (xs ys : List A) → map f (filter t (xs ++ ys)) ≡ map f (filter t xs) ++ map f (filter t ys)
kept_append f t xs ys = ap (map f) (filter-append t xs ys) ∙ map-append f (filter t xs) (filter t ys)

-- ---- whose turn it is

read_on : (bounds : List Bound) (acts : List Act) (n : ℕ) → AreDone bounds acts n → find (turns bounds) (spots acts) ≡ find (turns bounds) (spots_from n (drop n acts))
read_on bounds acts n h = done_from (turns bounds) acts 0 n n (omega arith) (λ i j act e l s. let z : j ≡ i = omega arith in subst (λ k. find (turns bounds) (spots_in (k, act)) ≡ None) z (h j act l s))

pub next_found : (bounds : List Bound) (acts : List Act) (n : ℕ) (x : Act) (spot : Kept) → n < length acts → x ≡ get_or acts n x → AreDone bounds acts n → Some spot ≡ option_map kept_spot (find (turns bounds) (spots_of n 0 x.references)) → Some spot ≡ option_map kept_spot (find (turns bounds) (spots acts))
next_found bounds acts n x spot l e h f =
    go (find t here) f
    ∙ ap (option_map kept_spot) (sym (read_on bounds acts n h ∙ ap (find t) (acts_from acts n x l e) ∙ find_append t here later))
  where
    t : Spot → Bool
    t = turns bounds

    here : List Spot
    here = spots_of n 0 x.references

    later : List Spot
    later = spots_from (n + 1) (drop (n + 1) acts)

    go : (o : Option Spot) → Some spot ≡ option_map kept_spot o → Some spot ≡ option_map kept_spot (or_else o (find t later))
    go None g = absurd (none-some spot (sym g))
    go (Some y) g = g

read_at : {A : Type 0} (xs : List A) (n : ℕ) (x d : A) → slice_get xs n ≡ Some x → get_or xs n d ≡ x
read_at [] n x d e = absurd (none-some x e)
read_at (y ∷ ys) zero x d e = cc
read_at (y ∷ ys) (suc n) x d e = read_at ys n x d e

pub done_more : (bounds : List Bound) (acts : List Act) (n : ℕ) (x : Act) → n < length acts → x ≡ get_or acts n x → AreDone bounds acts n → None ≡ option_map kept_spot (find (turns bounds) (spots_of n 0 x.references)) → AreDone bounds acts (n + 1)
done_more bounds acts n x l e h f k act below s = go (nat_lt k n) refl
  where
    none : (o : Option Spot) → None ≡ option_map kept_spot o → o ≡ None
    none None g = refl
    none (Some y) g = absurd (none-some (kept_spot y) g)

    go : (b : Bool) → nat_lt k n ≡ b → find (turns bounds) (spots_in (k, act)) ≡ None
    go true b = h k act (ltb-true k n b) s
    go false b =
        let above : n ≤ k = ltb-false k n b in
        let same : n ≡ k = omega arith in
        let is : x ≡ act = e ∙ ap (λ i. get_or acts i x) same ∙ read_at acts k act x s in
        subst (λ i. find (turns bounds) (spots_in (i, act)) ≡ None) same
        (subst (λ y. find (turns bounds) (spots_of n 0 y.references) ≡ None) is (none (find (turns bounds) (spots_of n 0 x.references)) f))

pub none_found : (bounds : List Bound) (acts : List Act) (n : ℕ) → length acts ≤ n → AreDone bounds acts n → None ≡ option_map kept_spot (find (turns bounds) (spots acts))
none_found bounds acts n l h = sym (ap (option_map kept_spot) (read_on bounds acts n h ∙ ap (λ xs. find (turns bounds) (spots_from n xs)) (drop_all n acts l)))
