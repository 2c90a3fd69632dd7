-- Which types are marked where a test says it, and what the nearest of some types that is marked has.
use Rattle.std.proofs.Common.{◌≡◌, refl, sym, ap, ◌∙◌, true≢false, eqb-true}
use Rattle.std.specs.Prelude.{ℕ, Bool, true, false, ◌||◌, ◌&&◌, nat_eq, List, [], ◌∷◌, Option, Some, None, if◌then◌else◌}
use Rattle.std.specs.List.{filter, list_any}
use Rattle.std.specs.Option.{option_or}
use Rattle.pst_base.specs.declared.position.Place.{Place}
use Rattle.pst_ast.specs.declared.scope_declaration.Declaration.{Declaration}
use Rattle.pst_ast.specs.Sorts.{same_place}
use Rattle.pst_marked_bases.specs.Marked.{is_marked, last_of}
use Rattle.pst_marked_bases.proofs.Among.{is_among}

left_of : (a b : Bool) → (a && b) ≡ true → a ≡ true
left_of true b e = refl
left_of false b e = absurd (true≢false (sym e))

right_of : (a b : Bool) → (a && b) ≡ true → b ≡ true
right_of true b e = e
right_of false b e = absurd (true≢false (sym e))

abbrev place : ℕ → ℕ → ℕ → Place
place file line column = record { file = file; line = line; column = column }

same_places : (a b : Place) → same_place a b ≡ true → a ≡ b
same_places a b e =
    let lines = right_of (nat_eq a.file b.file) (nat_eq a.line b.line && nat_eq a.column b.column) e in
    ap (λ (f : ℕ). place f a.line a.column) (eqb-true a.file b.file (left_of (nat_eq a.file b.file) (nat_eq a.line b.line && nat_eq a.column b.column) e))
    ∙ ap (λ (l : ℕ). place b.file l a.column) (eqb-true a.line b.line (left_of (nat_eq a.line b.line) (nat_eq a.column b.column) lines))
    ∙ ap (λ (c : ℕ). place b.file b.line c) (eqb-true a.column b.column (right_of (nat_eq a.line b.line) (nat_eq a.column b.column) lines))

and_false : (b : Bool) → (b && false) ≡ false
and_false true = refl
and_false false = refl

-- ---- marked by a test of places

module _ (has : Place → Bool) (p : Place) where
  abbrev any : List Place → Bool
  any places = list_any (λ q. same_place q p) places

  next : (q : Place) (more : List Place) (h s : Bool) → has q ≡ h → same_place q p ≡ s → any (filter has more) ≡ (has p && any more) → any (if h then q ∷ filter has more else filter has more) ≡ (has p && (s || any more))
  next q more true true holds is rest = ap (λ (b : Bool). b || any (filter has more)) is ∙ sym (ap (λ (b : Bool). b && true) (sym (ap has (same_places q p is)) ∙ holds))
  next q more true false holds is rest = ap (λ (b : Bool). b || any (filter has more)) is ∙ rest
  next q more false true holds is rest =
      let unless = sym (ap has (same_places q p is)) ∙ holds in
      rest ∙ ap (λ (b : Bool). b && any more) unless ∙ sym (ap (λ (b : Bool). b && true) unless)
  next q more false false holds is rest = rest

  any_that : (places : List Place) → any (filter has places) ≡ (has p && any places)
  any_that [] = sym (and_false (has p))
  any_that (q ∷ more) = next q more (has q) (same_place q p) refl refl (any_that more)

pub marked_that : (has : Place → Bool) (places : List Place) (d : Declaration) → is_marked (filter has places) d ≡ (has d.name.place && list_any (λ q. same_place q d.name.place) places)
marked_that has places d = is_among (filter has places) d.name.place ∙ any_that has d.name.place places

-- ---- the nearest is marked

nothing : {x : Declaration} → None ≡ Some x → ⊥
nothing {x} e = cc

some_at : {x y : Declaration} → Some x ≡ Some y → x ≡ y
some_at {x} {y} e = cc

module _ (places : List Place) where
  first : (later : Option Declaration) (d x : Declaration) → is_marked places d ≡ true → option_or later (Some d) ≡ Some x → (later ≡ Some x → is_marked places x ≡ true) → is_marked places x ≡ true
  first None d x on e rest = ap (is_marked places) (sym (some_at e)) ∙ on
  first (Some y) d x on e rest = rest e

  one_more : (b : Bool) (d x : Declaration) (more : List Declaration) → is_marked places d ≡ b → last_of (if b then d ∷ filter (is_marked places) more else filter (is_marked places) more) ≡ Some x
      → (last_of (filter (is_marked places) more) ≡ Some x → is_marked places x ≡ true) → is_marked places x ≡ true
  one_more true d x more is e rest = first (last_of (filter (is_marked places) more)) d x is e rest
  one_more false d x more is e rest = rest e

  pub last_marked : (bases : List Declaration) (x : Declaration) → last_of (filter (is_marked places) bases) ≡ Some x → is_marked places x ≡ true
  last_marked [] x e = absurd (nothing e)
  last_marked (d ∷ more) x e = one_more (is_marked places d) d x more refl e (last_marked more x)
