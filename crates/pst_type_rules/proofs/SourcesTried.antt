-- Facts about small sources.
use Rattle.std.proofs.Common.{◌≡◌, arith, refl, subst}
use Rattle.std.specs.Prelude.{ℕ, ℤ, pos, List, [], Option, Some, None}
use Rattle.pst_base.specs.declared.position.Place.{Place}
use Rattle.pst_ast.specs.DeclarationTree.{UnitTree}
use Rattle.pst_ast.specs.declared.environment.Environment.{Environment}
use Rattle.pst_type_rules.specs.Constants.{value_by, IsConstant}
use Rattle.pst_type_rules.specs.Domains.{span, ByCount, Between}
use Rattle.pst_type_rules.specs.TypeRules.{WidthOutside, ReversedInDomain, ValueOutside, OfUse}
use Rattle.pst_type_rules.specs.Tried.{on, number, names, wide, reversed, long, joined, Breaks}

-- ---- numbers are constants

abbrev pub nothing : Place → Option ℤ
nothing p = None

abbrev IsMissing : {A : Type 0} → Option A → Type 0
IsMissing None = Unit {0}
IsMissing (Some x) = ⊥

pub is_missing : {A : Type 0} (x : A) → None ≡ Some x → ⊥
is_missing x e = subst IsMissing e tt

pub number_is : (units : List UnitTree) (names : List (List ℕ)) (at : Environment) (n : ℕ) (place : Place) (v : ℤ) → value_by [] names nothing at (number n place) ≡ Some v
    → IsConstant units names at (number n place) v
number_is units names at n place v e = record { items = λ u c. absurd (omega (arith, c.1)); value = record { known = nothing; items = λ p w h. absurd (is_missing w h); value = e } }

pub width : Breaks wide (on 1 37) 9
width = OfUse _ _ _ (1, omega arith, refl) (WidthOutside _ _ _ (pos 64) refl (ByCount _ _ _ _ (number_is _ _ _ 64 (on 1 41) (pos 64) refl)) (λ h. omega (arith, h.1)))

pub range : Breaks reversed (on 1 48) 10
range = OfUse _ _ _ (0, omega arith, refl) (ReversedInDomain _ _ _ (span (pos 3) (pos 1)) (0, omega arith, refl) (Between _ _ _ _ _ (number_is _ _ _ 3 (on 1 48) (pos 3) refl) (number_is _ _ _ 1 (on 1 51) (pos 1) refl)) (omega arith))

pub count : Breaks joined (on 3 51) 12
count = OfUse _ _ _ (1, omega arith, refl) (ValueOutside _ _ _ (span (pos 0) (pos 2)) (pos 3) refl (number_is _ _ _ 3 (on 3 51) (pos 3) refl) (λ h. omega (arith, h.1)))

pub size : Breaks long (on 1 46) 12
size = OfUse _ _ _ (3, omega arith, refl) (ValueOutside _ _ _ (span (pos 1) (pos 64)) (pos 65) refl (number_is _ _ _ 65 (on 1 46) (pos 65) refl) (λ h. omega (arith, h.1)))
