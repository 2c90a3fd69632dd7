-- Items of other enums than the first of their key.
use Rattle.std.proofs.Common.{◌≡◌, ℕ, Bool, true, false, not, ◌&&◌, List, [], ◌∷◌, nat_eq, refl, sym, ap, ◌∙◌, cond, Option, true≢false}
use Rattle.std.specs.Prelude.{Some, None, is_some}
use Rattle.std.specs.Bool.{beq}
use Rattle.std.specs.Cmp.{nat_eq_equiv}
use Rattle.std.specs.List.{find}
use Rattle.std.proofs.Math.Bool.{and_assoc}
use Rattle.std.proofs.lemmas.Bool.{eqb-true}
use Rattle.pst_base.specs.declared.position.Place.{Place}
use Rattle.pst_base.specs.declared.table.NameId.{NameId}
use Rattle.pst_ast.specs.declared.scope_declaration.Declaration.{Declaration}
use Rattle.pst_ast.specs.declared.scope_declaration.Scope.{Scope}
use Rattle.pst_ast.specs.declared.scope_declaration.Scope.TheVariants.{Files, Part}
use Rattle.pst_ast.specs.Sorts.{same_name, same_place, same_scope}
use Rattle.pst_ast.specs.Lookups.{item_at, is_item_at}
use Rattle.pst_index.specs.declared.key.Key.{Key}
use Rattle.pst_index.specs.Keys.{name_key}
use Rattle.pst_index.specs.Found.{same_key, is_beside, is_other_item, is_item_beside}
use Rattle.pst_index.proofs.KeyTests.{find_same, item_has}

left_of : (a b : Bool) → (a && b) ≡ true → a ≡ true
left_of true b e = refl
left_of false b e = e

right_of : (a b : Bool) → (a && b) ≡ true → b ≡ true
right_of true b e = e
right_of false b e = absurd (true≢false (sym e))

same_bools : (a b : Bool) → beq a b ≡ true → a ≡ b
same_bools true true e = refl
same_bools false false e = refl
same_bools true false e = sym e
same_bools false true e = e

abbrev key : Bool → ℕ → ℕ → ℕ → ℕ → Key
key part file line column name = record { part = part; file = file; line = line; column = column; name = name }

same_keys : (a b : Key) → same_key a b ≡ true → a ≡ b
same_keys a b e =
    let files = right_of (beq a.part b.part) (nat_eq a.file b.file && (nat_eq a.line b.line && (nat_eq a.column b.column && nat_eq a.name b.name))) e in
    let lines = right_of (nat_eq a.file b.file) (nat_eq a.line b.line && (nat_eq a.column b.column && nat_eq a.name b.name)) files in
    let columns = right_of (nat_eq a.line b.line) (nat_eq a.column b.column && nat_eq a.name b.name) lines in
    ap (λ (p : Bool). key p a.file a.line a.column a.name) (same_bools a.part b.part (left_of (beq a.part b.part) (nat_eq a.file b.file && (nat_eq a.line b.line && (nat_eq a.column b.column && nat_eq a.name b.name))) e))
    ∙ ap (λ (f : ℕ). key b.part f a.line a.column a.name) (eqb-true a.file b.file (left_of (nat_eq a.file b.file) (nat_eq a.line b.line && (nat_eq a.column b.column && nat_eq a.name b.name)) files))
    ∙ ap (λ (l : ℕ). key b.part b.file l a.column a.name) (eqb-true a.line b.line (left_of (nat_eq a.line b.line) (nat_eq a.column b.column && nat_eq a.name b.name) lines))
    ∙ ap (λ (c : ℕ). key b.part b.file b.line c a.name) (eqb-true a.column b.column (left_of (nat_eq a.column b.column) (nat_eq a.name b.name) columns))
    ∙ ap (λ (n : ℕ). key b.part b.file b.line b.column n) (eqb-true a.name b.name (right_of (nat_eq a.column b.column) (nat_eq a.name b.name) columns))

abbrev place : ℕ → ℕ → ℕ → Place
place file line column = record { file = file; line = line; column = column }

same_places : (a b : Place) → same_place a b ≡ true → a ≡ b
same_places a b e =
    let lines = right_of (nat_eq a.file b.file) (nat_eq a.line b.line && nat_eq a.column b.column) e in
    ap (λ (f : ℕ). place f a.line a.column) (eqb-true a.file b.file (left_of (nat_eq a.file b.file) (nat_eq a.line b.line && nat_eq a.column b.column) e))
    ∙ ap (λ (l : ℕ). place b.file l a.column) (eqb-true a.line b.line (left_of (nat_eq a.line b.line) (nat_eq a.column b.column) lines))
    ∙ ap (λ (c : ℕ). place b.file b.line c) (eqb-true a.column b.column (right_of (nat_eq a.line b.line) (nat_eq a.column b.column) lines))

same_scopes : (a b : Scope) → same_scope a b ≡ true → a ≡ b
same_scopes Files Files e = refl
same_scopes Files (Part q) e = absurd (true≢false (sym e))
same_scopes (Part p) Files e = absurd (true≢false (sym e))
same_scopes (Part p) (Part q) e = ap (λ (x : Place). Part x) (same_places p q e)

places_turned : (p q : Place) → same_place p q ≡ same_place q p
places_turned p q =
    ap (λ (b : Bool). b && (nat_eq p.line q.line && nat_eq p.column q.column)) (nat_eq_equiv.symm p.file q.file)
    ∙ ap (λ (b : Bool). nat_eq q.file p.file && (b && nat_eq p.column q.column)) (nat_eq_equiv.symm p.line q.line)
    ∙ ap (λ (b : Bool). nat_eq q.file p.file && (nat_eq q.line p.line && b)) (nat_eq_equiv.symm p.column q.column)

scopes_turned : (s t : Scope) → same_scope s t ≡ same_scope t s
scopes_turned Files Files = refl
scopes_turned Files (Part q) = refl
scopes_turned (Part p) Files = refl
scopes_turned (Part p) (Part q) = places_turned p q

some_is_none : {d : Declaration} → Some d ≡ None → ⊥
some_is_none e = true≢false (ap is_some e)

abbrev or_else : Declaration → Option Declaration → Declaration
or_else d None = d
or_else d (Some x) = x

same_some : {d f : Declaration} → Some d ≡ Some f → d ≡ f
same_some {d} e = ap (or_else d) e

module _ (f : Key → Option Declaration) (q k : Key) (d : Declaration) where
  at_key : (b : Bool) → same_key q k ≡ b → (b && is_beside (f q) d) ≡ (b && is_beside (f k) d)
  at_key true e = ap (λ (x : Key). is_beside (f x) d) (same_keys q k e)
  at_key false e = refl

  beside_at : (same_key q k && is_beside (f q) d) ≡ (same_key q k && is_beside (f k) d)
  beside_at = at_key (same_key q k) refl

  and_true : (b : Bool) → (b && true) ≡ b
  and_true true = refl
  and_true false = refl

  and_false : (b : Bool) → (b && false) ≡ false
  and_false true = refl
  and_false false = refl

  -- a declaration beside the first of its key is kept at that key
  pub is_kept : is_beside (f k) d ≡ true → (same_key q k && is_beside (f q) d) ≡ same_key q k
  is_kept e = beside_at ∙ ap (λ (b : Bool). same_key q k && b) e ∙ and_true (same_key q k)

  -- another is kept at none
  pub is_passed : is_beside (f k) d ≡ false → (same_key q k && is_beside (f q) d) ≡ false
  is_passed e = beside_at ∙ ap (λ (b : Bool). same_key q k && b) e ∙ and_false (same_key q k)

none_at : (d : Declaration) (b c : Bool) (found narrower : Option Declaration) → cond b (Some d) found ≡ None → (found ≡ None → narrower ≡ None) → cond (b && c) (Some d) narrower ≡ None
none_at d true c found narrower e on = absurd (some_is_none e)
none_at d false c found narrower e on = on e

some_at : (f d : Declaration) (b c : Bool) (found narrower : Option Declaration) → cond b (Some d) found ≡ Some f → (d ≡ f → c ≡ true) → (found ≡ Some f → narrower ≡ Some f) → cond (b && c) (Some d) narrower ≡ Some f
some_at f d true c found narrower e good on = ap (λ (x : Bool). cond x (Some d) narrower) (good (same_some e)) ∙ e
some_at f d false c found narrower e good on = on e

module _ (p r : Declaration → Bool) where
  none_with : (ds : List Declaration) → find p ds ≡ None → find (λ d. p d && r d) ds ≡ None
  none_with [] e = refl
  none_with (d ∷ ds) e = none_at d (p d) (r d) (find p ds) (find (λ x. p x && r x) ds) e (none_with ds)

  some_with : (f : Declaration) (ds : List Declaration) → find p ds ≡ Some f → r f ≡ true → find (λ d. p d && r d) ds ≡ Some f
  some_with f [] e good = absurd (some_is_none (sym e))
  some_with f (d ∷ ds) e good = some_at f d (p d) (r d) (find p ds) (find (λ x. p x && r x) ds) e (λ same. ap r same ∙ good) (λ there. some_with f ds there good)

module _ (level : Scope) (name : NameId) (enum : Scope) where
  abbrev is_item : Declaration → Bool
  is_item d = is_item_at level d.sort && same_name d.name.id name

  abbrev is_apart : Declaration → Bool
  is_apart d = not (same_scope d.scope enum)

  regrouped : (ds : List Declaration) → find (is_item_beside level name enum) ds ≡ find (λ d. is_item d && is_apart d) ds
  regrouped ds = find_same (is_item_beside level name enum) (λ d. is_item d && is_apart d) (λ d. sym (and_assoc (is_item_at level d.sort) (same_name d.name.id name) (is_apart d))) ds

  pub none_beside : (ds : List Declaration) → item_at ds level name ≡ None → false ≡ is_some (find (is_item_beside level name enum) ds)
  unfolding item_at
  none_beside ds e = sym (ap is_some (regrouped ds ∙ none_with is_item is_apart ds e))

  pub first_beside : (ds : List Declaration) (first : Declaration) → item_at ds level name ≡ Some first → same_scope first.scope enum ≡ false → true ≡ is_some (find (is_item_beside level name enum) ds)
  unfolding item_at
  first_beside ds first e apart = sym (ap is_some (regrouped ds ∙ some_with is_item is_apart first ds e (ap not apart)))

  -- where the first item is of that enum
  pub others_beside : (ds : List Declaration) (first : Declaration) → same_scope first.scope enum ≡ true → is_some (find (is_other_item (Some first) (name_key level name)) ds) ≡ is_some (find (is_item_beside level name enum) ds)
  others_beside ds first e = ap is_some (find_same (is_other_item (Some first) (name_key level name)) (λ d. is_item d && is_apart d)
      (λ d. ap (λ (b : Bool). b && not (same_scope first.scope d.scope)) (item_has d.sort level name d.name.id)
      ∙ ap (λ (b : Bool). is_item d && not b) (ap (λ (s : Scope). same_scope s d.scope) (same_scopes first.scope enum e) ∙ scopes_turned enum d.scope)) ds
      ∙ sym (regrouped ds))
