-- Laws of the definitions: what the constraints of the sources mean, and which of the last rules comes first.
use Rattle.std.specs.Prelude.{◌≡◌, ◌↔◌, ℕ, ◌-◌, ◌^◌, ◌<◌, ℤ, List, [], ◌∷◌, Option, Some}
use Rattle.pst_base.specs.declared.position.Place.{Place}
use Rattle.pst_base.specs.Places.{IsBefore}
use Rattle.pst_ast.specs.declared.instance.Instance.{Instance}
use Rattle.pst_ast.specs.DeclarationTree.{UnitTree}
use Rattle.pst_ast.specs.ExpressionTree.{ExprTree, ExprIn, RangesTree, RangeTree, RangeSingle, RangeBetween}
use Rattle.pst_ast.specs.ConstraintTree.{ConstraintTree, ConstraintDeclarationTree}
use Rattle.pst_expr.specs.declared.ranges.Span.{Span}
use Rattle.pst_model.specs.ConstraintTree.{SlotTree}
use Rattle.pst_type_rules.specs.Domains.{ranges_of}
use Rattle.pst_bind.specs.PoolRules.{PoolBreach}
use Rattle.pst_terms.specs.Sources.{Sources}
use Rattle.pst_terms.specs.Readings.{Setting}
use Rattle.pst_elab_rules.specs.Constraints.{set_terms, declaration_terms}
use Rattle.pst_elab_rules.specs.Meaning.{AllHold, IsInOne}
use Rattle.pst_elab_rules.specs.Ends.{RootBreach}
use Rattle.pst_set_meaning.specs.Holding.{value_there, IsTrueValue, SetHolds, DeclarationHolds}

-- the constraints that a set becomes hold together exactly where the set holds
abbrev pub SetsMean : Type 0
SetsMean = (f : SlotTree → Option ℤ) (s : Sources) (setting : Setting) (set : ConstraintTree) → AllHold f (set_terms s setting set) ↔ SetHolds f s setting set

abbrev pub DeclarationsMean : Type 0
DeclarationsMean =
    (f : SlotTree → Option ℤ) (s : Sources) (setting : Setting) (declaration : ConstraintDeclarationTree) → AllHold f (declaration_terms s setting declaration) ↔ DeclarationHolds f s setting declaration

-- ---- `in`

-- a range whose ends have the values of a span
abbrev pub IsRangeThere : (SlotTree → Option ℤ) → Sources → Setting → RangeTree → Span → Type 0
IsRangeThere f s setting (RangeSingle expr) span = (value_there f s setting expr ≡ Some span.low) × (span.high ≡ span.low)
IsRangeThere f s setting (RangeBetween low dots high) span = (value_there f s setting low ≡ Some span.low) × (value_there f s setting high ≡ Some span.high)

abbrev pub AreRangesThere : (SlotTree → Option ℤ) → Sources → Setting → List RangeTree → List Span → Type 0
AreRangesThere f s setting [] [] = Unit {0}
AreRangesThere f s setting [] (span ∷ spans) = ⊥
AreRangesThere f s setting (r ∷ ranges) [] = ⊥
AreRangesThere f s setting (r ∷ ranges) (span ∷ spans) = IsRangeThere f s setting r span × AreRangesThere f s setting ranges spans

-- `x in [a..b, c]` is true exactly where the value of x is in one of the ranges
abbrev pub RangesMean : Type 0
RangesMean =
    (f : SlotTree → Option ℤ) (s : Sources) (setting : Setting) (x : ExprTree) (word opening close : Place) (ranges : RangesTree) (v : ℤ) (spans : List Span)
    → value_there f s setting x ≡ Some v → AreRangesThere f s setting (ranges_of ranges) spans → IsTrueValue (value_there f s setting (ExprIn x word opening ranges close)) ↔ IsInOne v spans

-- ---- the last rules

-- where a rule of pools is broken, in a file with a number below 2^32 - 1, that comes before the breach of a root that there isn't
abbrev pub PoolRulesComeFirst : Type 0
PoolRulesComeFirst =
    (units : List UnitTree) (names : List (List ℕ)) (instances : List Instance) (component action : List ℕ) (place at : Place) (rule last : ℕ) → PoolBreach units instances place rule → place.file < 2 ^ 32 - 1
    → RootBreach units names instances component action at last → IsBefore place at
