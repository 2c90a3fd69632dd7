-- Members are added to their rows as they come.
use Rattle.std.proofs.Common.{◌≡◌, ◌<◌, refl, sym, ap, ◌∙◌, append_assoc, cond}
use Rattle.std.specs.Prelude.{ℕ, ◌+◌, nat_eq, Bool, true, false, ◌&&◌, List, [], ◌∷◌, ◌++◌, length, drop, get_or, reverse, Option, Some, None, if◌then◌else◌}
use Rattle.std.specs.Cmp.{nat_eq_equiv}
use Rattle.std.specs.List.{filter, filter_map}
use Rattle.std.proofs.lemmas.List.{drop_more, reverse-append}
use Rattle.std.proofs.lemmas.List.Elements.{filter_map-append}
use Rattle.pst_base.specs.declared.position.Place.{Place}
use Rattle.pst_ast.specs.declared.scope_declaration.Declaration.{Declaration}
use Rattle.pst_ast.specs.declared.scope_declaration.Scope.{Scope}
use Rattle.pst_ast.specs.declared.scope_declaration.Scope.TheVariants.{Files, Part}
use Rattle.pst_ast.specs.declared.scope_declaration.Sort.TheVariants.{Component}
use Rattle.pst_ast.specs.Sorts.{same_scope, same_place}
use Rattle.pst_tree.specs.declared.key.PlaceKey.{PlaceKey}
use Rattle.pst_tree.specs.declared.rows.Member.{Member}
use Rattle.pst_tree.specs.Members.{is_member, members_at, member_scope, place_in, place_key, place_of, same_key}

-- a declaration where one has to stand
abbrev pub blank : Declaration
blank = record { name = record { id = record { 0 = 0 }; place = record { file = 0; line = 0; column = 0 } }; scope = Files; inside = None; sort = Component }

flip : (a b : ℕ) → nat_eq a b ≡ nat_eq b a
flip a b = nat_eq_equiv.symm a b

turned : (p : Place) (q : PlaceKey) → same_place p (place_of q) ≡ same_key q (place_key p)
turned p q =
    ap (λ (b : Bool). b && (nat_eq p.line q.line && nat_eq p.column q.column)) (flip p.file q.file)
    ∙ ap (λ (b : Bool). nat_eq q.file p.file && (b && nat_eq p.column q.column)) (flip p.line q.line)
    ∙ ap (λ (b : Bool). nat_eq q.file p.file && (nat_eq q.line p.line && b)) (flip p.column q.column)

same_some : {A : Type 0} {x y : A} → Some x ≡ Some y → x ≡ y
same_some {A} {x} {y} e = cc

some_is_none : {A : Type 0} {x : A} → Some x ≡ None → ⊥
some_is_none {A} {x} e = cc

in_scope_of : (scope : Scope) (place : Place) (q : PlaceKey) → place_in scope ≡ Some place → same_scope scope (Part (place_of q)) ≡ same_key q (place_key place)
in_scope_of Files place q e = absurd (some_is_none (sym e))
in_scope_of (Part p) place q e = turned p q ∙ ap (λ (x : Place). same_key q (place_key x)) (same_some e)

in_no_scope : (scope : Scope) (q : PlaceKey) → place_in scope ≡ None → same_scope scope (Part (place_of q)) ≡ false
in_no_scope Files q e = refl
in_no_scope (Part p) q e = absurd (some_is_none e)

tested : (b : Bool) (scope : Scope) (place : Place) (q : PlaceKey) → (if b then place_in scope else None) ≡ Some place → (b && same_scope scope (Part (place_of q))) ≡ same_key q (place_key place)
tested true scope place q e = in_scope_of scope place q e
tested false scope place q e = absurd (some_is_none (sym e))

not_tested : (b : Bool) (scope : Scope) (q : PlaceKey) → (if b then place_in scope else None) ≡ None → (b && same_scope scope (Part (place_of q))) ≡ false
not_tested true scope q e = in_no_scope scope q e
not_tested false scope q e = refl

one_more : (b : Bool) (d : Declaration) (old rest : List Declaration) → old ++ cond b (d ∷ rest) rest ≡ (old ++ cond b (d ∷ []) []) ++ rest
one_more true d old rest = sym (append_assoc old (d ∷ []) rest)
one_more false d old rest = sym (append_assoc old [] rest)

module _ (by : Member) (ds : List Declaration) (i : ℕ) (d0 : Declaration) (within : i < length ds) (q : PlaceKey) where
  abbrev d : Declaration
  d = get_or ds i d0

  abbrev place : Place
  place = place_of q

  abbrev test : Declaration → Bool
  test x = is_member by x.sort && same_scope x.scope (Part place)

  at_next : (old : List Declaration) → old ++ members_at by (drop i ds) place ≡ (old ++ cond (test d) (d ∷ []) []) ++ members_at by (drop (i + 1) ds) place
  at_next old = ap (λ (xs : List Declaration). old ++ filter test xs) (drop_more ds i d0 within) ∙ one_more (test d) d old (members_at by (drop (i + 1) ds) place)

  pub added : (p : Place) (old new total : List Declaration) → member_scope by d ≡ Some p → new ≡ old ++ cond (same_key q (place_key p)) (d ∷ []) []
      → old ++ members_at by (drop i ds) place ≡ total → new ++ members_at by (drop (i + 1) ds) place ≡ total
  added p old new total is e before =
      ap (λ (xs : List Declaration). xs ++ members_at by (drop (i + 1) ds) place) (e ∙ ap (λ (b : Bool). old ++ cond b (d ∷ []) []) (sym (tested (is_member by d.sort) d.scope p q is)))
      ∙ sym (at_next old) ∙ before

  pub left_out : (old total : List Declaration) → member_scope by d ≡ None → old ++ members_at by (drop i ds) place ≡ total → old ++ members_at by (drop (i + 1) ds) place ≡ total
  left_out old total is before =
      sym (at_next old ∙ ap (λ (b : Bool). (old ++ cond b (d ∷ []) []) ++ members_at by (drop (i + 1) ds) place) (not_tested (is_member by d.sort) d.scope q is) ∙ append_assoc old [] (members_at by (drop (i + 1) ds) place)) ∙ before

-- ---- a row is gone through from its end

module _ {A B : Type 0} (f : A → Option B) (before : List A) (d : A) (ps total : List B) where
  abbrev Before : List A → Type 0
  Before left = filter_map f left ++ reverse ps ≡ total

  pub pushed : (left : List A) (p : B) → left ≡ before ++ d ∷ [] → f d ≡ Some p → Before left → filter_map f before ++ reverse (ps ++ p ∷ []) ≡ total
  pushed left p split is e =
      ap (λ (xs : List B). filter_map f before ++ xs) (reverse-append ps (p ∷ []))
      ∙ sym (ap (λ (xs : List A). filter_map f xs ++ reverse ps) split ∙ (rw (filter_map-append f before (d ∷ []), is) (append_assoc (filter_map f before) (p ∷ []) (reverse ps))))
      ∙ e

  pub passed : (left : List A) → left ≡ before ++ d ∷ [] → f d ≡ None → Before left → filter_map f before ++ reverse ps ≡ total
  passed left split is e =
      sym (ap (λ (xs : List A). filter_map f xs ++ reverse ps) split ∙ (rw (filter_map-append f before (d ∷ []), is) (append_assoc (filter_map f before) [] (reverse ps))))
      ∙ e
