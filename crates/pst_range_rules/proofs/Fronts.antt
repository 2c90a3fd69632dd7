-- What is found at the items of a list, and at each of them with those before it.
use Rattle.std.proofs.Common.{◌≡◌, inl, inr, zero, suc, List, [], ◌∷◌, ◌++◌, map, Bool, true, false, ◌||◌, arith, refl, sym, ap, subst, true≢false, Option}
use Rattle.std.specs.Prelude.{Some}
use Rattle.std.specs.List.{list_any, Contains}
use Rattle.std.proofs.lemmas.Bool.{or_left, or_right}
use Rattle.std.proofs.lemmas.List.{append-nil, append_assoc, map-append}
use Rattle.pst_ast.specs.declared.referent.Finding.{Finding}
use Rattle.pst_name_rules.specs.Leasts.{IsIn}
use Rattle.pst_range_rules.specs.Meetings.{fronts}

pub is_first : {X : Type 0} (x : X) (more : List X) → Contains (x ∷ more) x
is_first x more = (0, omega arith, refl)

pub is_behind : {X : Type 0} (x y : X) (more : List X) → Contains more y → Contains (x ∷ more) y
is_behind x y more c = (suc c.0, omega (arith, c.1), c.2)

-- ---- a test of each item

module _ {X Y : Type 0} (g : X → Y) (test : Y → Bool) where
  any_by : (x : X) (more : List X) (b : Bool) → test (g x) ≡ b → (list_any test (map g more) ≡ true → (e : X) × Contains more e × (test (g e) ≡ true))
      → (b || list_any test (map g more)) ≡ true → (e : X) × Contains (x ∷ more) e × (test (g e) ≡ true)
  any_by x more true is later any = (x, is_first x more, is)
  any_by x more false is later any = let rest = later any in (rest.0, is_behind x rest.0 more rest.1, rest.2)

  pub from_any : (xs : List X) → list_any test (map g xs) ≡ true → (e : X) × Contains xs e × (test (g e) ≡ true)
  from_any [] any = absurd (true≢false (sym any))
  from_any (x ∷ more) any = any_by x more (test (g x)) refl (from_any more) any

  pub to_any : (xs : List X) (e : X) → Contains xs e → test (g e) ≡ true → list_any test (map g xs) ≡ true
  to_any [] e (n, within, there) is = absurd (omega (arith, within))
  to_any (x ∷ more) e (zero, within, there) is = or_left (test (g x)) (list_any test (map g more)) (subst (λ (y : X). test (g y) ≡ true) (sym there) is)
  to_any (x ∷ more) e (suc n, within, there) is = or_right (test (g x)) (list_any test (map g more)) (to_any more e (n, omega (arith, within), there) is)

-- ---- what is found at each item

module _ {X Y : Type 0} (g : X → Y) (finding : Y → Option Finding) where
  pub from_in : (xs : List X) (f : Finding) → IsIn finding (map g xs) f → (x : X) × Contains xs x × (finding (g x) ≡ Some f)
  from_in [] f is = absurd is
  from_in (x ∷ more) f (inl here) = (x, is_first x more, here)
  from_in (x ∷ more) f (inr there) = let rest = from_in more f there in (rest.0, is_behind x rest.0 more rest.1, rest.2)

  pub to_in : (xs : List X) (x : X) (f : Finding) → Contains xs x → finding (g x) ≡ Some f → IsIn finding (map g xs) f
  to_in [] x f (n, within, there) is = absurd (omega (arith, within))
  to_in (y ∷ more) x f (zero, within, there) is = inl (subst (λ (z : X). finding (g z) ≡ Some f) (sym there) is)
  to_in (y ∷ more) x f (suc n, within, there) is = inr (to_in more x f (n, omega (arith, within), there) is)

-- ---- what is found at each item with those before it

module _ {X Y : Type 0} (g : X → Y) (finding : List Y × Y → Option Finding) where
  abbrev found_at : List X → X → Finding → Type 0
  found_at front x f = finding (map g front, g x) ≡ Some f

  pub from_fronts : (front xs : List X) (f : Finding) → IsIn finding (fronts (map g front) (map g xs)) f
      → (before : List X) × (x : X) × (more : List X) × (xs ≡ before ++ x ∷ more) × found_at (front ++ before) x f
  from_fronts front [] f is = absurd is
  from_fronts front (x ∷ xs) f (inl here) = ([], x, xs, refl, subst (λ (l : List X). found_at l x f) (sym (append-nil front)) here)
  from_fronts front (x ∷ xs) f (inr there) =
      let rest = from_fronts (front ++ x ∷ []) xs f (subst (λ (l : List Y). IsIn finding (fronts l (map g xs)) f) (sym (map-append g front (x ∷ []))) there) in
      (x ∷ rest.0, rest.1, rest.2, ap (λ (l : List X). x ∷ l) rest.3, subst (λ (l : List X). found_at l rest.1 f) (append_assoc front (x ∷ []) rest.0) rest.4)

  pub to_fronts : (front before more : List X) (x : X) (f : Finding) → found_at (front ++ before) x f → IsIn finding (fronts (map g front) (map g (before ++ x ∷ more))) f
  to_fronts front [] more x f is = inl (subst (λ (l : List X). found_at l x f) (append-nil front) is)
  to_fronts front (b ∷ before) more x f is =
      inr (subst (λ (l : List Y). IsIn finding (fronts l (map g (before ++ x ∷ more))) f) (map-append g front (b ∷ []))
      (to_fronts (front ++ b ∷ []) before more x f (subst (λ (l : List X). found_at l x f) (sym (append_assoc front (b ∷ []) before)) is)))
