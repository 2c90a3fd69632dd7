-- References of linked actions.
use Rattle.std.proofs.Common.{◌≡◌, ℕ, zero, suc, ◌+◌, ◌<◌, List, [], ◌∷◌, ◌++◌, map, length, Bool, true, false, ◌&&◌, ◌||◌, nat_eq, if◌then◌else◌, Option, Some, None, refl, sym, ap, ◌∙◌, arith, append_assoc}
use Rattle.std.specs.Prelude.{slice_get}
use Rattle.std.specs.List.{enumerate_from, filter, list_any}
use Rattle.std.specs.Option.{option_map, option_and_then}
use Rattle.std.proofs.lemmas.Bool.{eq-eqb, ne_eqb, eqb-true, eqb-false, false≢true}
use Rattle.std.proofs.lemmas.List.{map-append}
use Rattle.std.proofs.lemmas.Option.{none-some, same_Some}
use Rattle.pst_scen.specs.declared.act.Act.{Act}
use Rattle.pst_scen.specs.declared.act.Filled.{Filled}
use Rattle.pst_scen.specs.declared.act.Link.{Link}
use Rattle.pst_legal.specs.SupplyReading.{Spot, spots_in, spots, with_link, act_with_link, put_link}
use Rattle.pst_ties.specs.declared.tied.End.{End}
use Rattle.pst_ties.specs.Tieds.{same_end}
use Rattle.pst_pool_sources.specs.Offers.{end_of}
use Rattle.pst_pool_sources.proofs.Rising.{same_true}
use Rattle.pst_open_ends.specs.Spots.{spots_of, spots_from, spot_at}
use Rattle.pst_open_ends.proofs.Lookups.{Each, Found, each_spot}
use Rattle.pst_free_ends.proofs.Each.{each_so}

-- the reference is at that end
abbrev pub at : End → Spot → Bool
at e s = same_end e (end_of s)

-- the reference, linked where it is at that end
abbrev pub spot_with : Link → Spot → Spot
spot_with to s = record { act = s.act; reference = s.reference; filled = with_link to s.filled }

abbrev pub linked : End → Link → Spot → Spot
linked e to s = if at e s then spot_with to s else s

eq_sym : (m n : ℕ) → nat_eq m n ≡ nat_eq n m
eq_sym m n = go (nat_eq n m) refl
  where
    go : (b : Bool) → nat_eq n m ≡ b → nat_eq m n ≡ b
    go true e = let s : n ≡ m = eqb-true n m e in eq-eqb m n (sym s)
    go false e = ne_eqb m n (λ s. eqb-false n m e (sym s))

-- ---- the references of linked actions

module _ (a r : ℕ) (to : Link) where
  abbrev here : End
  here = record { act = a; reference = r }

  in_it : (k m : ℕ) (fs : List Filled) → nat_eq a k ≡ true → map (λ e. record { act = k; reference = e.0; filled = e.1 }) (enumerate_from m (map (λ e. if nat_eq e.0 r then with_link to e.1 else e.1) (enumerate_from m fs))) ≡ map (linked here to) (spots_of k m fs)
  in_it k m [] h = refl
  in_it k m (f ∷ fs) h =
      ap (λ b. one b ∷ rest) (eq_sym m r)
      ∙ ap (λ s. s ∷ rest) (same (nat_eq r m))
      ∙ ap (λ b. (if b && nat_eq r m then spot_with to this else this) ∷ rest) (sym h)
      ∙ ap (λ l. linked here to this ∷ l) (in_it k (m + 1) fs h)
    where
      this : Spot
      this = record { act = k; reference = m; filled = f }

      rest : List Spot
      rest = map (λ e. record { act = k; reference = e.0; filled = e.1 }) (enumerate_from (m + 1) (map (λ e. if nat_eq e.0 r then with_link to e.1 else e.1) (enumerate_from (m + 1) fs)))

      one : Bool → Spot
      one b = record { act = k; reference = m; filled = if b then with_link to f else f }

      same : (b : Bool) → one b ≡ (if b then spot_with to this else this)
      same true = refl
      same false = refl

  past_it : (k m : ℕ) (fs : List Filled) → nat_eq a k ≡ false → spots_of k m fs ≡ map (linked here to) (spots_of k m fs)
  past_it k m [] h = refl
  past_it k m (f ∷ fs) h =
      ap (λ l. this ∷ l) (past_it k (m + 1) fs h)
      ∙ ap (λ b. (if b && nat_eq r m then spot_with to this else this) ∷ map (linked here to) (spots_of k (m + 1) fs)) (sym h)
    where
      this : Spot
      this = record { act = k; reference = m; filled = f }

  in_all : (k : ℕ) (xs : List Act) → spots_from k (map (λ e. if nat_eq e.0 a then act_with_link r to e.1 else e.1) (enumerate_from k xs)) ≡ map (linked here to) (spots_from k xs)
  in_all k [] = refl
  in_all k (x ∷ xs) =
      ap (λ l. spots_in (k, if nat_eq k a then act_with_link r to x else x) ++ l) (in_all (k + 1) xs)
      ∙ ap (λ b. spots_in (k, if b then act_with_link r to x else x) ++ later) (eq_sym k a)
      ∙ ap (λ l. l ++ later) (go (nat_eq a k) refl)
      ∙ sym (map-append (linked here to) (spots_of k 0 x.references) (spots_from (k + 1) xs))
    where
      later : List Spot
      later = map (linked here to) (spots_from (k + 1) xs)

      go : (b : Bool) → nat_eq a k ≡ b → spots_in (k, if b then act_with_link r to x else x) ≡ map (linked here to) (spots_of k 0 x.references)
      go true e = in_it k 0 x.references e
      go false e = past_it k 0 x.references e

  pub spots_linked : (acts : List Act) → spots (put_link a r to acts) ≡ map (linked here to) (spots acts)
  spots_linked acts = in_all 0 acts

pub linked_end : (e : End) (to : Link) (s : Spot) → end_of (linked e to s) ≡ end_of s
linked_end e to s = go (at e s)
  where
    go : (b : Bool) → end_of (if b then spot_with to s else s) ≡ end_of s
    go true = refl
    go false = refl

-- ---- the one reference at an end

abbrev end_at : ℕ → ℕ → End
end_at a r = record { act = a; reference = r }

pub same_is : (a b : End) → same_end a b ≡ true → a ≡ b
same_is a b h = let s = same_true a b h in ap (λ x. end_at x a.reference) s.0 ∙ ap (end_at b.act) s.1

pub only_one : (acts : List Act) (e : End) (one : Spot) → spot_at acts e ≡ Some one → Each (λ s. at e s ≡ true → s ≡ one) (spots acts)
only_one acts e one is = each_so (Found acts) (λ s. at e s ≡ true → s ≡ one) (spots acts) (λ s found h. same_Some s one (sym found ∙ ap (spot_at acts) (sym (same_is e (end_of s) h)) ∙ is)) (each_spot acts)

-- one that is picked is there, and passes
pub record Picked (acts : List Act) (e : End) (t : Spot → Bool) : Type 0 where
  pub spot : Spot
  pub is : spot_at acts e ≡ Some spot
  pub passes : t spot ≡ true

pub picked_is : (acts : List Act) (e : End) (t : Spot → Bool) (xs : List Spot) → Each (Found acts) xs → list_any (same_end e) (map end_of (filter t xs)) ≡ true → Picked acts e t
picked_is acts e t [] h p = absurd (false≢true p)
picked_is acts e t (x ∷ xs) h p = go (t x) refl (λ q. picked_is acts e t xs h.1 q) p
  where
    two : t x ≡ true → (c : Bool) → same_end e (end_of x) ≡ c → (list_any (same_end e) (map end_of (filter t xs)) ≡ true → Picked acts e t) → (c || list_any (same_end e) (map end_of (filter t xs))) ≡ true → Picked acts e t
    two w true s later p = record { spot = x; is = ap (spot_at acts) (same_is e (end_of x) s) ∙ h.0; passes = w }
    two w false s later p = later p

    go : (b : Bool) → t x ≡ b → (list_any (same_end e) (map end_of (filter t xs)) ≡ true → Picked acts e t) → list_any (same_end e) (map end_of (if b then x ∷ filter t xs else filter t xs)) ≡ true → Picked acts e t
    go false w later p = later p
    go true w later p = two w (same_end e (end_of x)) refl later p

-- ---- more actions

pub spots_more : (k : ℕ) (xs ys : List Act) → spots_from k (xs ++ ys) ≡ spots_from k xs ++ spots_from (k + length xs) ys
spots_more k [] ys = let z : k ≡ k + 0 = omega arith in ap (λ n. spots_from n ys) z
spots_more k (x ∷ xs) ys =
    let z : k + 1 + length xs ≡ k + suc (length xs) = omega arith in
    ap (λ l. spots_of k 0 x.references ++ l) (spots_more (k + 1) xs ys)
    ∙ ap (λ n. spots_of k 0 x.references ++ (spots_from (k + 1) xs ++ spots_from n ys)) z
    ∙ sym (append_assoc (spots_of k 0 x.references) (spots_from (k + 1) xs) (spots_from (k + suc (length xs)) ys))

-- an action that is there stays
pub got_of_more : {A : Type 0} (xs ys : List A) (k : ℕ) (x : A) → slice_get xs k ≡ Some x → slice_get (xs ++ ys) k ≡ Some x
got_of_more [] ys k x e = absurd (none-some x e)
got_of_more (y ∷ xs) ys zero x e = e
got_of_more (y ∷ xs) ys (suc k) x e = got_of_more xs ys k x e

pub spot_of_more : (acts more : List Act) (e : End) (s : Spot) → spot_at acts e ≡ Some s → spot_at (acts ++ more) e ≡ Some s
spot_of_more acts more e s is = go (slice_get acts e.act) refl is
  where
    find : Act → Option Spot
    find act = option_map (λ filled. record { act = e.act; reference = e.reference; filled = filled }) (slice_get act.references e.reference)

    go : (o : Option Act) → slice_get acts e.act ≡ o → option_and_then find o ≡ Some s → option_and_then find (slice_get (acts ++ more) e.act) ≡ Some s
    go None f g = absurd (none-some s g)
    go (Some act) f g = ap (option_and_then find) (got_of_more acts more e.act act f) ∙ g

-- a reference is one of an action that is there
pub spot_below : (acts : List Act) (e : End) (s : Spot) → spot_at acts e ≡ Some s → e.act < length acts
spot_below acts e s is = go (slice_get acts e.act) refl is
  where
    find : Act → Option Spot
    find act = option_map (λ filled. record { act = e.act; reference = e.reference; filled = filled }) (slice_get act.references e.reference)

    below : {A : Type 0} (xs : List A) (k : ℕ) (x : A) → slice_get xs k ≡ Some x → k < length xs
    below [] k x e = absurd (none-some x e)
    below (y ∷ ys) zero x e = omega arith
    below (y ∷ ys) (suc k) x e = let l = below ys k x e in omega arith

    go : (o : Option Act) → slice_get acts e.act ≡ o → option_and_then find o ≡ Some s → e.act < length acts
    go None f g = absurd (none-some s g)
    go (Some act) f g = below acts e.act act f
