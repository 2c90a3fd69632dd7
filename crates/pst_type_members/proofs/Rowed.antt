-- Members are added to their rows as they come.
use Rattle.std.proofs.Common.{◌≡◌, ◌<◌, refl, sym, ap, ◌∙◌, append_assoc, cond}
use Rattle.std.specs.Prelude.{ℕ, ◌+◌, nat_eq, Bool, true, false, ◌&&◌, List, [], ◌∷◌, ◌++◌, length, drop, get_or, Some, None}
use Rattle.std.specs.Cmp.{nat_eq_equiv}
use Rattle.std.specs.List.{filter}
use Rattle.std.proofs.lemmas.List.{drop_more}
use Rattle.pst_base.specs.declared.position.Place.{Place}
use Rattle.pst_ast.specs.declared.scope_declaration.Declaration.{Declaration}
use Rattle.pst_ast.specs.declared.scope_declaration.Scope.{Scope}
use Rattle.pst_ast.specs.declared.scope_declaration.Scope.TheVariants.{Files, Part}
use Rattle.pst_ast.specs.declared.scope_declaration.Sort.TheVariants.{Component}
use Rattle.pst_ast.specs.Sorts.{same_scope, same_place}
use Rattle.pst_type_members.specs.declared.key.ScopeKey.{ScopeKey}
use Rattle.pst_type_members.specs.Keyed.{members_at, place_in, scope_key, place_of, same_key}

-- a declaration where one has to stand
abbrev pub blank : Declaration
blank = record { name = record { id = record { 0 = 0 }; place = record { file = 0; line = 0; column = 0 } }; scope = Files; inside = None; sort = Component }

flip : (a b : ℕ) → nat_eq a b ≡ nat_eq b a
flip a b = nat_eq_equiv.symm a b

turned : (p : Place) (q : ScopeKey) → same_place p (place_of q) ≡ same_key q (scope_key p)
turned p q =
    ap (λ (b : Bool). b && (nat_eq p.line q.line && nat_eq p.column q.column)) (flip p.file q.file)
    ∙ ap (λ (b : Bool). nat_eq q.file p.file && (b && nat_eq p.column q.column)) (flip p.line q.line)
    ∙ ap (λ (b : Bool). nat_eq q.file p.file && (nat_eq q.line p.line && b)) (flip p.column q.column)

same_some : {A : Type 0} {x y : A} → Some x ≡ Some y → x ≡ y
same_some {A} {x} {y} e = cc

some_is_none : {A : Type 0} {x : A} → Some x ≡ None → ⊥
some_is_none {A} {x} e = cc

in_scope_of : (scope : Scope) (place : Place) (q : ScopeKey) → place_in scope ≡ Some place → same_scope scope (Part (place_of q)) ≡ same_key q (scope_key place)
in_scope_of Files place q e = absurd (some_is_none (sym e))
in_scope_of (Part p) place q e = turned p q ∙ ap (λ (x : Place). same_key q (scope_key x)) (same_some e)

in_no_scope : (scope : Scope) (q : ScopeKey) → place_in scope ≡ None → same_scope scope (Part (place_of q)) ≡ false
in_no_scope Files q e = refl
in_no_scope (Part p) q e = absurd (some_is_none e)

one_more : (b : Bool) (d : Declaration) (old rest : List Declaration) → old ++ cond b (d ∷ rest) rest ≡ (old ++ cond b (d ∷ []) []) ++ rest
one_more true d old rest = sym (append_assoc old (d ∷ []) rest)
one_more false d old rest = sym (append_assoc old [] rest)

module _ (ds : List Declaration) (i : ℕ) (d0 : Declaration) (within : i < length ds) (q : ScopeKey) where
  abbrev d : Declaration
  d = get_or ds i d0

  abbrev place : Place
  place = place_of q

  abbrev test : Declaration → Bool
  test x = same_scope x.scope (Part place)

  at_next : (old : List Declaration) → old ++ members_at (drop i ds) place ≡ (old ++ cond (test d) (d ∷ []) []) ++ members_at (drop (i + 1) ds) place
  at_next old = ap (λ (xs : List Declaration). old ++ filter test xs) (drop_more ds i d0 within) ∙ one_more (test d) d old (members_at (drop (i + 1) ds) place)

  pub added : (p : Place) (old new total : List Declaration) → place_in d.scope ≡ Some p → new ≡ old ++ cond (same_key q (scope_key p)) (d ∷ []) []
      → old ++ members_at (drop i ds) place ≡ total → new ++ members_at (drop (i + 1) ds) place ≡ total
  added p old new total is e before =
      ap (λ (xs : List Declaration). xs ++ members_at (drop (i + 1) ds) place) (e ∙ ap (λ (b : Bool). old ++ cond b (d ∷ []) []) (sym (in_scope_of d.scope p q is)))
      ∙ sym (at_next old) ∙ before

  pub left_out : (old total : List Declaration) → place_in d.scope ≡ None → old ++ members_at (drop i ds) place ≡ total → old ++ members_at (drop (i + 1) ds) place ≡ total
  left_out old total is before =
      sym (at_next old ∙ ap (λ (b : Bool). (old ++ cond b (d ∷ []) []) ++ members_at (drop (i + 1) ds) place) (in_no_scope d.scope q is) ∙ append_assoc old [] (members_at (drop (i + 1) ds) place)) ∙ before
