-- What ranges explain.
use Rattle.pst_ast.specs.ExpressionLimits.{counts_expr}
use Rattle.pst_ast.specs.ExpressionProper.{IsProperExpr, IsProperRanges, IsProperNextRange, IsProperRange, AreProperNextRange}
use Rattle.pst_ast.specs.ExpressionSpelling.{spell_expr, spell_ranges, spell_next_range, spell_range, spell_next_range_row}
use Rattle.pst_ast.specs.ExpressionTree.{ExprTree, NextRangeTree, MakeRanges, MakeNextRange, RangeSingle, RangeBetween}
use Rattle.pst_ast.specs.Limits.{Count, counted}
use Rattle.pst_ast.specs.SharedLimits.{counts_own_range, counts_own_next_range, counts_own_range_row, counts_own_ranges}
use Rattle.pst_parse_part.proofs.ChoicesExplain.{explains_if_mark}
use Rattle.pst_parse_part.specs.Ranges.{high_by, next_range_by, range_by, ranges_by, range_row}
use Rattle.pst_parse_expr.proofs.Answering.{explains}
use Rattle.pst_parse_expr.specs.Constraints.{outermost_at, is_at}
use Rattle.pst_reading.proofs.Chains.{explains_mark, explains_part}
use Rattle.pst_reading.proofs.Explaining.{Means, Explains, Behind, explains_done}
use Rattle.pst_reading.proofs.Lists.{list_explains}
use Rattle.pst_reading.specs.Lists.{list_by}
use Rattle.pst_token.specs.declared.kind.Kind.TheVariants as kind
use Rattle.pst_token.specs.declared.token.Token.{Token}
use Rattle.std.proofs.Common.{refl, ap, append-nil, ℕ, suc, ◌≡◌, List, [], ◌∷◌, ◌++◌}
use Rattle.std.specs.List.{flat_map, AllByRecursion}

pub high_explains : (size depth : ℕ) (low : ExprTree) → IsProperExpr low → Explains (Behind (Means spell_range IsProperRange (counts_own_range depth)) (spell_expr low) (counts_expr depth 0 low)) (high_by size depth low)
high_explains size depth low proper =
    explains_mark _ kind.DotDot (counted depth 0) _ (λ dots.
    explains_part _ spell_expr IsProperExpr (counts_expr depth 0) (outermost_at (suc size) depth) _ (explains depth (suc size)) (λ high h1.
    explains_done _ (RangeBetween low dots high) (record { is = rw append-nil refl; proper = (proper, h1); counted = rw append-nil refl })))

pub range_explains : (size depth : ℕ) → Explains (Means spell_range IsProperRange (counts_own_range depth)) (range_by size depth)
range_explains size depth =
    let M = Means spell_range IsProperRange (counts_own_range depth) in
    explains_part M spell_expr IsProperExpr (counts_expr depth 0) (outermost_at (suc size) depth) _ (explains depth (suc size)) (λ low proper.
    explains_if_mark (Behind M (spell_expr low) (counts_expr depth 0 low)) kind.DotDot _ _ (high_explains size depth low proper)
    (explains_done (Behind M (spell_expr low) (counts_expr depth 0 low)) (RangeSingle low) (record { is = rw append-nil refl; proper = proper; counted = rw append-nil refl })))

pub next_range_explains : (size depth : ℕ) → Explains (Means spell_next_range IsProperNextRange (counts_own_next_range depth)) (next_range_by size depth)
next_range_explains size depth =
    explains_mark _ kind.Comma (counted depth 0) _ (λ comma.
    explains_part _ spell_range IsProperRange (counts_own_range depth) (range_by size depth) _ (range_explains size depth) (λ range h1.
    explains_done _ (MakeNextRange comma range) (record { is = rw append-nil refl; proper = h1; counted = rw append-nil refl })))

pub ranges_spelled : (rs : List NextRangeTree) → spell_next_range_row (range_row rs) ≡ flat_map spell_next_range rs
ranges_spelled [] = refl
ranges_spelled (r ∷ rs) = ap (λ (u : List Token). spell_next_range r ++ u) (ranges_spelled rs)

pub ranges_counted : (depth : ℕ) (rs : List NextRangeTree) → counts_own_range_row depth (range_row rs) ≡ flat_map (counts_own_next_range depth) rs
ranges_counted depth [] = refl
ranges_counted depth (r ∷ rs) = ap (λ (u : List Count). counts_own_next_range depth r ++ u) (ranges_counted depth rs)

ranges_proper : (rs : List NextRangeTree) → AllByRecursion IsProperNextRange rs → AreProperNextRange (range_row rs)
ranges_proper [] h = tt
ranges_proper (r ∷ rs) h = (h.0, ranges_proper rs h.1)

pub ranges_explains : (size depth : ℕ) → Explains (Means spell_ranges IsProperRanges (counts_own_ranges depth)) (ranges_by size depth)
ranges_explains size depth =
    explains_part _ spell_range IsProperRange (counts_own_range depth) (range_by size depth) _ (range_explains size depth) (λ first h0.
    explains_part _ (flat_map spell_next_range) (AllByRecursion IsProperNextRange) (flat_map (counts_own_next_range depth)) (list_by (is_at kind.Comma) (next_range_by size depth) size) _ (list_explains spell_next_range IsProperNextRange (counts_own_next_range depth) (is_at kind.Comma) (next_range_by size depth) (next_range_explains size depth) size) (λ rest h1.
    explains_done _ (MakeRanges first (range_row rest)) (record { is = rw (append-nil, ranges_spelled) refl; proper = (h0, ranges_proper rest h1); counted = rw (append-nil, ranges_counted) refl })))
