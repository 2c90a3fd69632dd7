-- Laws between the values of constants, spans and enum items by the rules of types, and those by which the model of the sources is made.
use Rattle.std.specs.Prelude.{◌≡◌, ◌↔◌, ℕ, ℤ, List, Option, Some, IsTrue, slice_get}
use Rattle.std.specs.List.{Contains}
use Rattle.pst_base.specs.declared.position.Place.{Place}
use Rattle.pst_ast.specs.ExpressionTree.{ExprTree, RangeTree}
use Rattle.pst_ast.specs.SharedTree.{PlainTree}
use Rattle.pst_ast.specs.DeclarationTree.{UnitTree}
use Rattle.pst_expr.specs.declared.ranges.Span.{Span}
use Rattle.pst_ast.specs.Breaches.{IsNone}
use Rattle.pst_ast.specs.declared.scope_declaration.Declaration.{Declaration}
use Rattle.pst_ast.specs.declared.environment.Environment.{Environment}
use Rattle.pst_ast.specs.Declarations.{declarations}
use Rattle.pst_ast.specs.Uses.{Use, Judges, Role, plain_uses, end_uses, uses}
use Rattle.pst_type_rules.specs.Enums.{DeclaredItem, item_at}
use Rattle.pst_type_rules.specs.Constants.{IsItemValue, IsConstant}
use Rattle.pst_type_rules.specs.Domains.{HasSpan, IsSpanOf}
use Rattle.pst_type_rules.specs.TypeRules.{TypeBreach, is_constant}
use Rattle.pst_type_rules.specs.Typed.{AreConstants}
use Rattle.pst_evaluate.specs.Known as settled
use Rattle.pst_evaluate.specs.Settled.{AreItemValues}
use Rattle.pst_terms.specs.Sources.{Sources, value_of, item_value}
use Rattle.pst_elab_rules.specs.Spans.{plain_span, range_span}

-- The sources keep the rules of types, and the constants are theirs: so it is where sources are elaborated.
pub record AreValued (s : Sources) : Type 0 where
  pub types_right : IsNone (TypeBreach s.units s.names)
  pub constants : AreConstants s.units s.names s.constants

-- each name is declared once, at a place of its own: so it is where the tokens of the sources stand at rising places
abbrev pub StandApart : List Declaration → Type 0
StandApart ds = (j k : ℕ) (d e : Declaration) → slice_get ds j ≡ Some d → slice_get ds k ≡ Some e → d.name.place ≡ e.name.place → j ≡ k

-- the value that is found for a constant part of the sources is the one that it has by the rules
abbrev pub ConstantsAreValued : Type 0
ConstantsAreValued =
    (s : Sources) (at : Environment) (role : Role) (expr : ExprTree) (v : ℤ) → AreValued s → Contains (uses s.units) (Judges at role expr) → IsTrue (is_constant role)
    → (value_of s expr ≡ Some v) ↔ IsConstant s.units s.names at expr v

-- the span that is found for a plain type that stands in the sources is the one that it has by the rules
abbrev pub SpansAreFound : Type 0
SpansAreFound =
    (s : Sources) (at : Environment) (plain : PlainTree) (found : Span) → AreValued s → ((u : Use) → Contains (plain_uses at plain) u → Contains (uses s.units) u)
    → (plain_span s plain ≡ found) ↔ HasSpan s.units s.names at plain found

-- the span that is found for a range of constants that stands in the sources is the one that it has by the rules
abbrev pub RangesAreFound : Type 0
RangesAreFound =
    (s : Sources) (at : Environment) (range : RangeTree) (found : Span) → AreValued s → ((u : Use) → Contains (end_uses at range) u → Contains (uses s.units) u)
    → (range_span s range ≡ found) ↔ IsSpanOf s.units s.names at range found

-- the value that is found for an enum item is the one that it has by the rules
abbrev pub ItemValuesAreFound : Type 0
ItemValuesAreFound =
    (s : Sources) (place : Place) (v : ℤ) → AreValued s → StandApart (declarations s.units) → (item_value s place ≡ Some v) ↔ IsItemValue s.units s.names place v

-- by the values that items have, an item gets just the value that it has
abbrev pub ItemValuesAreSettled : Type 0
ItemValuesAreSettled =
    (units : List UnitTree) (names : List (List ℕ)) (known : Place → Option ℤ) (place : Place) (item : DeclaredItem) (v : ℤ) → AreItemValues units names known → item_at units place ≡ Some item
    → (settled.item_value (declarations units) names known item ≡ Some v) ↔ IsItemValue units names place v
