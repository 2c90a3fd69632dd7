-- What is found at the type of a field is the first of what it breaks.
use Rattle.std.proofs.Common.{◌≡◌, ◌↔◌, ◌⊎◌, inl, inr, ⊎_elim, ℕ, ℤ, Bool, true, List, map, Option, refl, sym, subst}
use Rattle.std.specs.Prelude.{Some, None, is_some, if◌then◌else◌}
use Rattle.pst_base.specs.declared.position.Place.{Place}
use Rattle.pst_base.specs.Laws.{BeforeGoesOn}
use Rattle.pst_ast.specs.ExpressionTree.{ExprTree}
use Rattle.pst_ast.specs.SharedTree.{TypeTree, TypePlain, TypeNamed}
use Rattle.pst_ast.specs.DeclarationTree.{UnitTree}
use Rattle.pst_ast.specs.Declarations.{declarations}
use Rattle.pst_ast.specs.declared.environment.Environment.{Environment}
use Rattle.pst_ast.specs.declared.referent.Finding.{Finding}
use Rattle.pst_ast.specs.NameRules.{finding}
use Rattle.pst_ast.specs.Uses.{HasType}
use Rattle.pst_type_rules.specs.Constants.{IsConstant}
use Rattle.pst_type_rules.specs.Domains.{IsInType, IsKnown, ranges_behind, ranges_in}
use Rattle.pst_type_rules.specs.Enums.{enums}
use Rattle.pst_type_rules.specs.Places.{range_place, type_place}
use Rattle.pst_type_rules.specs.TypeRules.{UseBreaks, ReversedInDomain, Empty}
use Rattle.pst_name_rules.specs.Leasts.{IsLeastOf, IsIn}
use Rattle.pst_name_rules.proofs.Leasts.{least_of_both, told, least_in}
use Rattle.pst_evaluate.specs.Laws.{ConstantsAreFound}
use Rattle.pst_evaluate.specs.Kept.{constant_by}
use Rattle.pst_enum_values.specs.Gathered.{enum_places}
use Rattle.pst_range_rules.specs.Laws.{IsBrokenBy, TypesAreJudged}
use Rattle.pst_range_rules.specs.Spans.{is_reversed, range_span, reversed_finding, reversed_in, span_of, spans_of}
use Rattle.pst_range_rules.specs.Types.{base_span, enum_named, is_empty_enum, is_empty_plain, type_by_ranges}
use Rattle.pst_range_rules.proofs.ArmsJudged.{is_reversed_so, reversed_is}
use Rattle.pst_range_rules.proofs.EnumEmpty.{enum_empty_is, enum_is_empty}
use Rattle.pst_range_rules.proofs.Fronts.{from_in, to_in}
use Rattle.pst_range_rules.proofs.PlainEmpty.{plain_empty_is, plain_is_empty}
use Rattle.pst_range_rules.proofs.Tests.{found_if, is_found, least_if}

module _ (units : List UnitTree) (names : List (List ℕ)) (at : Environment) (value : ExprTree → Option ℤ) (are : (expr : ExprTree) (v : ℤ) → (value expr ≡ Some v) ↔ IsConstant units names at expr v) (on : BeforeGoesOn) where
  module _ (type : TypeTree) (empty : Bool) (empty_is : empty ≡ true → UseBreaks units names (HasType at type) (type_place type) 10)
      (is_empty : IsKnown units names at type → ((v : ℤ) → IsInType units names at type v → ⊥) → empty ≡ true) where
    abbrev Reversed : Finding → Type 0
    Reversed f = ⊥ ⊎ IsIn reversed_finding (spans_of value (ranges_in type)) f

    abbrev Without : Finding → Type 0
    Without f = (empty ≡ true) × (f.place ≡ type_place type) × (f.rule ≡ 10)

    moved : (f : Finding) (place : Place) → f.place ≡ place → f.rule ≡ 10 → UseBreaks units names (HasType at type) place 10 → IsBrokenBy units names (HasType at type) f
    moved f place p r breaks =
        subst (λ (n : ℕ). UseBreaks units names (HasType at type) f.place n) (sym r) (subst (λ (q : Place). UseBreaks units names (HasType at type) q 10) (sym p) breaks)

    from_reversed : (f : Finding) → IsIn reversed_finding (spans_of value (ranges_in type)) f → IsBrokenBy units names (HasType at type) f
    from_reversed f is =
        let found = from_in (range_span value) reversed_finding (ranges_in type) f is in
        let test = found_if (range_place found.0) 10 (is_reversed (span_of value found.0)) f found.2 in
        let rev = reversed_is units names at value are found.0 (span_of value found.0) refl test.0 in
        moved f (range_place found.0) test.1 test.2 (ReversedInDomain at type found.0 rev.0 found.1 rev.1 rev.2)

    to : (f : Finding) → Reversed f ⊎ Without f → IsBrokenBy units names (HasType at type) f
    to f parts = ⊎_elim (λ r. ⊎_elim (λ no. absurd no) (from_reversed f) r) (λ w. moved f (type_place type) w.1 w.2 (empty_is w.0)) parts

    from : (f : Finding) (place : Place) (rule : ℕ) → f.place ≡ place → f.rule ≡ rule → UseBreaks units names (HasType at type) place rule → Reversed f ⊎ Without f
    from f _ _ p r (ReversedInDomain _ _ range s among is rev) =
        inl (inr (to_in (range_span value) reversed_finding (ranges_in type) range f among (is_found (range_place range) 10 (is_reversed (span_of value range)) f (is_reversed_so units names at value are range s is rev) p r)))
    from f _ _ p r (Empty _ _ known none) = inr (is_empty known none, p, r)

    pub type_judged : IsLeastOf (IsBrokenBy units names (HasType at type)) (type_by_ranges (spans_of value (ranges_in type)) (type_place type) empty)
    type_judged =
        told on (λ (f : Finding). Reversed f ⊎ Without f) (IsBrokenBy units names (HasType at type)) (type_by_ranges (spans_of value (ranges_in type)) (type_place type) empty) to (λ f breaks. from f f.place f.rule refl refl breaks)
        (least_of_both on Reversed Without (reversed_in (spans_of value (ranges_in type))) (if empty then finding (type_place type) 10 else None)
        (least_in on reversed_finding (spans_of value (ranges_in type)) (λ (f : Finding). ⊥) None (λ f no. no))
        (least_if (type_place type) 10 Without empty (λ e. (e, refl, refl)) (λ f w. w)))

pub types_are_judged : ConstantsAreFound → BeforeGoesOn → TypesAreJudged
types_are_judged found on units names known at (TypePlain plain domain) items_are =
    let value = constant_by (declarations units) names known at in
    let are = λ (expr : ExprTree) (v : ℤ). found units names known at expr v items_are in
    type_judged units names at value are on (TypePlain plain domain) (is_empty_plain (base_span value plain) (is_some domain) (spans_of value (ranges_behind domain)))
    (plain_empty_is units names at value are plain domain) (plain_is_empty units names at value are plain domain)
types_are_judged found on units names known at (TypeNamed name domain) items_are =
    let value = constant_by (declarations units) names known at in
    let are = λ (expr : ExprTree) (v : ℤ). found units names known at expr v items_are in
    type_judged units names at value are on (TypeNamed name domain)
    (is_empty_enum known (enum_named (declarations units) (map enum_places (enums units)) at.component name) (is_some domain) (spans_of value (ranges_behind domain)))
    (enum_empty_is units names at value are known items_are name domain) (enum_is_empty units names at value are known items_are name domain)
