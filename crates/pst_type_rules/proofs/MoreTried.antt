-- Facts about the second source.
use Rattle.std.proofs.Common.{◌≡◌, arith, zero, suc, refl, sym, subst, ap, ◌∙◌}
use Rattle.std.specs.Prelude.{ℤ, pos, ◌≤ℤ◌, unsigned_abs, List, [], ◌∷◌, false, Some, None}
use Rattle.std.specs.List.{flat_map, Contains}
use Rattle.std.proofs.lemmas.Int.{ints}
use Rattle.pst_base.specs.declared.position.Place.{Place}
use Rattle.pst_ast.specs.ExpressionTree.{RangeTree, RangeSingle}
use Rattle.pst_ast.specs.SharedTree.{PlainBit}
use Rattle.pst_ast.specs.ActivityTree.{StatementTree}
use Rattle.pst_ast.specs.DeclarationTree.{UnitTree}
use Rattle.pst_expr.specs.declared.ranges.Span.{Span}
use Rattle.pst_expr.specs.Spans.{IsInSpan}
use Rattle.pst_ast.specs.declared.scope_declaration.Declaration.{Declaration}
use Rattle.pst_ast.specs.declared.environment.Environment.{Environment}
use Rattle.pst_ast.specs.Lookups.{look_up, declared_at, base_of, member_of, item_at, value_named, type_of, traversed, stands_for}
use Rattle.pst_type_rules.specs.Domains.{span, HasSpan, Bit, OfPlain, IsInType, Single, Plain, IsSpanOf}
use Rattle.pst_type_rules.specs.Sites.{DeclaredAction, action_at, field_at}
use Rattle.pst_type_rules.specs.Members.{WithoutBase, Itself, Derives, IsCompound, Own, Inherited, activities_of}
use Rattle.pst_type_rules.specs.Limits.{References, One, Array, Nothing, More}
use Rattle.pst_type_rules.specs.Handles.{traversals, IsSteadyIn, ByDerived}
use Rattle.pst_type_rules.specs.Binds.{Input, StreamOutput}
use Rattle.pst_type_rules.specs.TypeRules.{LowestNotZero, Empty, TooMany, ManyFields, OfUse, OfDeclaration, Unsteady, BoundTwice}
use Rattle.pst_type_rules.specs.Tried.{on, number}
use Rattle.pst_type_rules.specs.TriedMore.{source, names, Breaks, base, derived, without_value}
use Rattle.pst_type_rules.proofs.SourcesTried.{number_is}
use Rattle.pst_type_rules.proofs.RulesTried.{some_is, first_or}
use Rattle.pst_type_rules.proofs.WidthTried.{IsFilled}

abbrev units : List UnitTree
units = source ∷ []

-- ---- types

pub lowest_bit : Breaks 5 46 9
lowest_bit = OfUse _ _ _ (28, omega arith, refl) (LowestNotZero _ _ _ (pos 1) refl (number_is _ _ _ 1 (on 5 52) (pos 1) refl) (λ e. omega (arith, ap unsigned_abs e)))

abbrev two : RangeTree
two = RangeSingle (number 2 (on 5 72))

from_two : (at : Environment) (s : Span) → IsSpanOf units names at two s → s.low ≡ pos 2
from_two at s (Single _ v c) = sym (some_is (pos 2) v c.value.value)

is_two : (r : RangeTree) → Contains (two ∷ []) r → two ≡ r
is_two r (zero, less, is) = is
is_two r (suc k, less, is) = absurd (omega (arith, less))

two_known : (at : Environment) (r : RangeTree) → Contains (two ∷ []) r → (s : Span) × IsSpanOf units names at r s × (s.low ≤ℤ s.high)
two_known at r among =
    subst (λ (x : RangeTree). (s : Span) × IsSpanOf units names at x s × (s.low ≤ℤ s.high)) (is_two r among)
    (span (pos 2) (pos 2), Single _ _ (number_is _ _ _ 2 (on 5 72) (pos 2) refl), omega arith)

not_a_bit : (at : Environment) (place : Place) (s : Span) (v : ℤ) → HasSpan units names at (PlainBit place None) s → IsInSpan v s → v ≤ℤ pos 1
not_a_bit at place s v (Bit _) h = h.1

not_between : (v : ℤ) → pos 2 ≤ℤ v → v ≤ℤ pos 1 → ⊥
not_between v a b = omega (arith, ints)

empty : (at : Environment) (v : ℤ) → IsInType units names at without_value v → ⊥
empty at v (OfPlain _ _ s _ bits inside kept) =
    let low = from_two at kept.span (subst (λ (x : RangeTree). IsSpanOf units names at x kept.span) (sym (is_two kept.range kept.among)) kept.is) in
    not_between v (subst (λ (z : ℤ). z ≤ℤ v) low kept.inside.0) (not_a_bit at _ s v bits inside)

pub no_value : Breaks 5 64 10
no_value = OfUse _ _ _ (31, omega arith, refl) (Empty _ _ (record { base = Plain _ _ _ (Bit _); ranges = two_known _ }) (empty _))

-- ---- counts

pub fields_with_array : Breaks 5 39 12
unfolding look_up base_of field_at
fields_with_array =
    OfDeclaration _ _ _ (10, omega arith, refl)
    (ManyFields _ (_ ∷ []) _ _ 64 1 (WithoutBase _ refl) refl
    (More _ _ 64 0 (Array _ _ _ 64 refl refl (number_is _ _ _ 64 (on 5 25) (pos 64) refl) (omega arith) (omega arith)) Nothing) (One _ _ refl refl) (omega arith) (omega arith))

pub references : Breaks 8 17 12
unfolding look_up base_of
references =
    OfDeclaration _ _ _ (18, omega arith, refl)
    (TooMany _ (_ ∷ _ ∷ _ ∷ _ ∷ _ ∷ _ ∷ _ ∷ _ ∷ _ ∷ _ ∷ _ ∷ _ ∷ _ ∷ _ ∷ _ ∷ _ ∷ []) _ _ 16 (References _ (WithoutBase _ refl)) refl refl)

-- ---- binds

pub output_twice : Breaks 4 72 20
unfolding look_up declared_at base_of member_of item_at value_named type_of traversed stands_for
output_twice =
    BoundTwice (_ ∷ []) (_ ∷ []) _ _ refl (0, omega arith, refl) (StreamOutput refl (record { handle = refl; reference = refl }) (record { reference = _; type = _; named = refl; typed = refl; stream = refl }))

pub input_twice : Breaks 4 86 20
input_twice = BoundTwice (_ ∷ _ ∷ []) [] _ _ refl (0, omega arith, refl) (Input refl (record { handle = refl; reference = refl }))

-- ---- handles

pub steady : IsSteadyIn units base (record { 0 = 17 })
unfolding action_at
steady = record { statements = _; compound = Own _ _ _ _ refl refl; steady = refl }

its_activities : (a : DeclaredAction) → action_at units (on 7 10) ≡ Some a → [] ∷ [] ≡ activities_of a
unfolding action_at
its_activities a found = ap activities_of (some_is _ a found)

its_statements : (d : Declaration) (statements : List StatementTree) → IsCompound units d statements → d ≡ derived → [] ≡ statements
its_statements d statements (Own _ a s more found is) same =
    ap (first_or s) (its_activities a (subst (λ (e : Declaration). action_at units e.name.place ≡ Some a) same found) ∙ is)
its_statements d statements (Inherited _ from a s found none nothing_else b c) same =
    absurd (subst IsFilled (its_activities a (subst (λ (e : Declaration). action_at units e.name.place ≡ Some a) same found) ∙ none) tt)

not_steady : IsSteadyIn units derived (record { 0 = 17 }) → ⊥
not_steady s =
    let e = subst (λ (ss : List StatementTree). flat_map (traversals (record { 0 = 17 }) false) ss ≡ false ∷ []) (sym (its_statements derived s.statements s.compound refl)) s.steady in
    subst IsFilled (sym e) tt

pub unsteady_in_derived : Breaks 6 30 18
unfolding look_up declared_at base_of member_of item_at value_named type_of traversed stands_for
unsteady_in_derived =
    Unsteady _ _ _ derived (35, omega arith, refl) (0, omega arith, refl) refl refl (ByDerived base derived refl refl (17, omega arith, refl) (Derives _ _ _ refl (Itself _))) not_steady
