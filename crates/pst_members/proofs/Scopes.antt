-- Scopes are the same just where their keys are.
use Rattle.std.proofs.Common.{◌≡◌, ℕ, Bool, true, false, ◌&&◌, nat_eq, refl, sym, ap, ◌∙◌, true≢false}
use Rattle.std.specs.Cmp.{nat_eq_equiv}
use Rattle.std.proofs.lemmas.Bool.{eqb-true}
use Rattle.pst_base.specs.declared.position.Place.{Place}
use Rattle.pst_ast.specs.declared.scope_declaration.Scope.{Scope}
use Rattle.pst_ast.specs.declared.scope_declaration.Scope.TheVariants.{Files, Part}
use Rattle.pst_ast.specs.Sorts.{same_place, same_scope}
use Rattle.pst_members.specs.Keys.{scope_key, same_key}

left_of : (a b : Bool) → (a && b) ≡ true → a ≡ true
left_of true b e = refl
left_of false b e = e

right_of : (a b : Bool) → (a && b) ≡ true → b ≡ true
right_of true b e = e
right_of false b e = absurd (true≢false (sym e))

abbrev place : ℕ → ℕ → ℕ → Place
place file line column = record { file = file; line = line; column = column }

same_places : (a b : Place) → same_place a b ≡ true → a ≡ b
same_places a b e =
    let lines = right_of (nat_eq a.file b.file) (nat_eq a.line b.line && nat_eq a.column b.column) e in
    ap (λ (f : ℕ). place f a.line a.column) (eqb-true a.file b.file (left_of (nat_eq a.file b.file) (nat_eq a.line b.line && nat_eq a.column b.column) e))
    ∙ ap (λ (l : ℕ). place b.file l a.column) (eqb-true a.line b.line (left_of (nat_eq a.line b.line) (nat_eq a.column b.column) lines))
    ∙ ap (λ (c : ℕ). place b.file b.line c) (eqb-true a.column b.column (right_of (nat_eq a.line b.line) (nat_eq a.column b.column) lines))

pub same_scopes : (a b : Scope) → same_scope a b ≡ true → a ≡ b
same_scopes Files Files e = refl
same_scopes Files (Part q) e = absurd (true≢false (sym e))
same_scopes (Part p) Files e = absurd (true≢false (sym e))
same_scopes (Part p) (Part q) e = ap (λ (x : Place). Part x) (same_places p q e)

turned : (p q : Place) → same_place p q ≡ same_place q p
turned p q =
    ap (λ (b : Bool). b && (nat_eq p.line q.line && nat_eq p.column q.column)) (nat_eq_equiv.symm p.file q.file)
    ∙ ap (λ (b : Bool). nat_eq q.file p.file && (b && nat_eq p.column q.column)) (nat_eq_equiv.symm p.line q.line)
    ∙ ap (λ (b : Bool). nat_eq q.file p.file && (nat_eq q.line p.line && b)) (nat_eq_equiv.symm p.column q.column)

pub same_keys : (a b : Scope) → same_key (scope_key a) (scope_key b) ≡ same_scope b a
same_keys Files Files = refl
same_keys Files (Part q) = refl
same_keys (Part p) Files = refl
same_keys (Part p) (Part q) = turned p q

pub same_itself : (a : Scope) → same_scope a a ≡ true
same_itself Files = refl
same_itself (Part p) =
    ap (λ (b : Bool). b && (nat_eq p.line p.line && nat_eq p.column p.column)) (nat_eq_equiv.refl p.file)
    ∙ ap (λ (b : Bool). b && nat_eq p.column p.column) (nat_eq_equiv.refl p.line)
    ∙ nat_eq_equiv.refl p.column
