-- The spans of plain types and of ranges, by the values of their constants.
use Rattle.std.specs.Prelude.{ℕ, ◌+◌, ℤ, pos, List, [], ◌∷◌, map, Option, Some, None}
use Rattle.std.specs.Option.{option_map_or}
use Rattle.pst_base.specs.declared.position.Place.{Place}
use Rattle.pst_ast.specs.ExpressionTree.{ExprTree, RangesTree, RangeTree, RangeSingle, RangeBetween}
use Rattle.pst_ast.specs.SharedTree.{WidthTree, MakeWidth, PlainTree, PlainInt, PlainBit, PlainBool}
use Rattle.pst_ast.specs.DeclarationTree.{UnitTree}
use Rattle.pst_expr.specs.declared.ranges.Span.{Span}
use Rattle.pst_ast.specs.Sorts.{same_place}
use Rattle.pst_type_rules.specs.Domains.{span, signed_span, unsigned_span, ranges_of, IsDomainOf}
use Rattle.pst_type_rules.specs.Sites.{DeclaredField}
use Rattle.pst_terms.specs.Sources.{Sources, value_of, amount_of}
use Rattle.std.specs.Prelude.{if◌then◌else◌}

-- [W], or [M:0] for M + 1, or that many bits where there is no width
abbrev pub width_or : Sources → ℕ → Option WidthTree → ℕ
width_or s otherwise None = otherwise
width_or s otherwise (Some (MakeWidth left expr None right)) = amount_of s expr
width_or s otherwise (Some (MakeWidth left expr (Some low) right)) = amount_of s expr + 1

abbrev pub plain_span : Sources → PlainTree → Span
plain_span s (PlainInt place width) = signed_span (width_or s 32 width)
plain_span s (PlainBit place width) = unsigned_span (width_or s 1 width)
plain_span s (PlainBool place) = span (pos 0) (pos 1)

abbrev pub end_value : Sources → ExprTree → ℤ
end_value s expr = option_map_or (λ v. v) (value_of s expr) (pos 0)

abbrev pub range_span : Sources → RangeTree → Span
range_span s (RangeSingle expr) = span (end_value s expr) (end_value s expr)
range_span s (RangeBetween low dots high) = span (end_value s low) (end_value s high)

-- a span for each range, in the order of the text
abbrev pub range_spans : Sources → RangesTree → List Span
range_spans s ranges = map (range_span s) (ranges_of ranges)

-- ---- the domains of fields

-- each field of the sources has a domain
pub data AreDomains (units : List UnitTree) (names : List (List ℕ)) : List DeclaredField → List (List Span) → Type 0 where
  NoDomain : AreDomains units names [] []
  MoreDomains : (f : DeclaredField) (fields : List DeclaredField) (domain : List Span) (domains : List (List Span)) → IsDomainOf units names f.at f.type domain
      → AreDomains units names fields domains → AreDomains units names (f ∷ fields) (domain ∷ domains)

-- the domain of the field whose name stands at a place
abbrev pub domain_at : List DeclaredField → List (List Span) → Place → List Span
domain_at [] domains place = []
domain_at (f ∷ fields) [] place = []
domain_at (f ∷ fields) (domain ∷ domains) place = if same_place f.name.place place then domain else domain_at fields domains place
