-- Ranges read what they spell again.
use Rattle.pst_ast.specs.ExpressionLimits.{counts_expr}
use Rattle.pst_ast.specs.ExpressionProper.{IsProperExpr, IsProperRanges, IsProperNextRange, IsProperRange, AreProperNextRange}
use Rattle.pst_ast.specs.ExpressionSpelling.{spell_expr, spell_ranges, spell_next_range, spell_range}
use Rattle.pst_ast.specs.ExpressionTree.{ExprTree, RangesTree, NextRangeTree, RangeTree, NextRangeRow, MakeRanges, MakeNextRange, RangeSingle, RangeBetween, NoNextRangeRow, MoreNextRangeRow}
use Rattle.pst_ast.specs.Limits.{Count, counted}
use Rattle.pst_ast.specs.Marks.{mark}
use Rattle.pst_ast.specs.SharedLimits.{counts_own_range, counts_own_next_range, counts_own_ranges}
use Rattle.pst_base.specs.declared.position.Place.{Place}
use Rattle.pst_parse_part.proofs.Following.{other_mark, next_list, next_part_in, expr_rereads, EndsRange}
use Rattle.pst_parse_part.proofs.RangesExplain.{ranges_spelled, ranges_counted}
use Rattle.pst_parse_part.specs.Ranges.{high_by, next_range_by, range_by, ranges_by, range_row}
use Rattle.pst_parse_expr.proofs.Starts.{starts_expr}
use Rattle.pst_parse_operator.proofs.Stops.{Separates, comma_closes, dots_close}
use Rattle.pst_parse_expr.specs.Constraints.{outermost_at, is_at, begins_expr}
use Rattle.pst_parse_operator.specs.Operators.{prefix_of}
use Rattle.pst_reading.proofs.Becoming.{Becomes, stays, becomes_both}
use Rattle.pst_reading.proofs.Marks.{choice_becomes}
use Rattle.pst_reading.proofs.Rereading.{Rereads, narrower, reread_mark, reread_part, reread_last, reread_choice, EndsOption, reread_list}
use Rattle.pst_reading.proofs.Tokens.{mark_is_so}
use Rattle.pst_reading.specs.Lists.{list_by}
use Rattle.pst_reading.specs.Parser.{Done, if_mark, next}
use Rattle.pst_token.specs.declared.kind.Kind.TheVariants as kind
use Rattle.pst_token.specs.declared.token.Token.{Token}
use Rattle.std.proofs.Common.{refl, sym, ap, subst, arith, append-nil, length-append, ℕ, suc, ◌≤◌, ◌≡◌, true, false, List, [], ◌∷◌, ◌++◌, Option, Some, None, length}
use Rattle.std.specs.List.{flat_map, AllByRecursion}

becomes_single : (size depth : ℕ) (low : ExprTree) (rest : List Token) → IsProperExpr low → length (spell_expr low) ≤ size → EndsRange (next rest) → Becomes (range_by size depth) (spell_expr low ++ rest) (counts_expr depth 0 low) (Done (RangeSingle low)) rest
becomes_single size depth low rest proper short m =
    let h = becomes_both (outermost_at (suc size) depth) (λ (e : ExprTree). if_mark kind.DotDot (high_by size depth e) (Done (RangeSingle e))) low (Done (RangeSingle low)) (spell_expr low ++ rest) rest rest (counts_expr depth 0 low) [] ((expr_rereads size depth low proper short).again rest m.0) (choice_becomes kind.DotDot (high_by size depth low) (Done (RangeSingle low)) (Done (RangeSingle low)) rest rest [] false m.1 (stays (Done (RangeSingle low)) rest)) in
    subst (λ (u : List Count). Becomes (range_by size depth) (spell_expr low ++ rest) u (Done (RangeSingle low)) rest) (append-nil (counts_expr depth 0 low)) h

pub range_rereads : (size depth : ℕ) (x : RangeTree) → IsProperRange x → length (spell_range x) ≤ size → Rereads EndsRange (range_by size depth) (spell_range x) (counts_own_range depth x) x
range_rereads size depth (RangeSingle low) proper short =
    record { again = λ rest m. becomes_single size depth low rest proper short m }
range_rereads size depth (RangeBetween low dots high) proper short =
    let long = length-append (spell_expr low) (mark kind.DotDot dots ∷ spell_expr high) in
    reread_part _ (Separates 0) (outermost_at (suc size) depth) _ (spell_expr low) _ low _ _ _ (expr_rereads size depth low proper.0 (omega (arith, short, long))) (λ rest m. dots_close dots)
    (reread_choice _ kind.DotDot _ _ _ _ _ true (λ rest m. mark_is_so kind.DotDot dots)
    (reread_mark _ kind.DotDot (counted depth 0) _ dots _ _ _
    (reread_last _ (outermost_at (suc size) depth) _ _ _ high _ (narrower (Separates 0) EndsRange _ _ _ _ (λ n m. m.0) (expr_rereads size depth high proper.1 (omega (arith, short, long)))) refl)))

pub next_range_begins : (E : Option Token → Type 0) → ((place : Place) → E (Some (mark kind.Comma place))) → (x : NextRangeTree) (us : List Token) → E (next (spell_next_range x ++ us))
next_range_begins E h (MakeNextRange comma range) us = h comma

pub next_range_some : (x : NextRangeTree) → 1 ≤ length (spell_next_range x)
next_range_some (MakeNextRange comma range) = omega arith

pub next_range_rereads : (size depth : ℕ) (x : NextRangeTree) → IsProperNextRange x → length (spell_next_range x) ≤ size → Rereads EndsRange (next_range_by size depth) (spell_next_range x) (counts_own_next_range depth x) x
next_range_rereads size depth (MakeNextRange comma range) proper short =
    reread_mark _ kind.Comma (counted depth 0) _ comma _ _ _
    (reread_last _ (range_by size depth) _ _ _ range _ (range_rereads size depth range proper (omega (arith, short))) refl)

list_of : NextRangeRow → List NextRangeTree
list_of NoNextRangeRow = []
list_of (MoreNextRangeRow range ranges) = range ∷ list_of ranges

row_is : (rs : NextRangeRow) → range_row (list_of rs) ≡ rs
unfolding list_of
row_is NoNextRangeRow = refl
row_is (MoreNextRangeRow range ranges) = ap (MoreNextRangeRow range) (row_is ranges)

all_proper : (rs : List NextRangeTree) → AreProperNextRange (range_row rs) → AllByRecursion IsProperNextRange rs
all_proper [] h = tt
all_proper (r ∷ rs) h = (h.0, all_proper rs h.1)

range_starts : (range : RangeTree) (rest : List Token) → begins_expr (next (spell_range range ++ rest)) ≡ true
range_starts (RangeSingle low) rest = starts_expr low rest
range_starts (RangeBetween low dots high) rest = next_part_in (λ n. begins_expr n ≡ true) (spell_expr low) (mark kind.DotDot dots ∷ spell_expr high) rest (starts_expr low _)

nothing : begins_expr None ≡ true → ⊥
unfolding begins_expr prefix_of
nothing e = cc

some_expr : (e : ExprTree) → 1 ≤ length (spell_expr e)
some_expr e = go (spell_expr e) (subst (λ (u : List Token). begins_expr (next u) ≡ true) (append-nil (spell_expr e)) (starts_expr e []))
  where
    go : (ts : List Token) → begins_expr (next ts) ≡ true → 1 ≤ length ts
    go [] e = absurd (nothing e)
    go (t ∷ ts) e = omega arith

some_range : (range : RangeTree) → 1 ≤ length (spell_range range)
some_range (RangeSingle low) = some_expr low
some_range (RangeBetween low dots high) = omega (arith, length-append (spell_expr low) (mark kind.DotDot dots ∷ spell_expr high))

list_rereads : (size depth : ℕ) (first : RangeTree) (rs : List NextRangeTree) → IsProperRange first → AllByRecursion IsProperNextRange rs → length (spell_range first ++ flat_map spell_next_range rs) ≤ size → Rereads (EndsOption (is_at kind.Comma) EndsRange) (ranges_by size depth) (spell_range first ++ flat_map spell_next_range rs) (counts_own_range depth first ++ flat_map (counts_own_next_range depth) rs) (MakeRanges first (range_row rs))
list_rereads size depth first rs proper propers short =
    let long = length-append (spell_range first) (flat_map spell_next_range rs) in
    reread_part _ EndsRange (range_by size depth) _ (spell_range first) _ first _ _ _ (range_rereads size depth first proper (omega (arith, short, long))) (λ rest m. next_list EndsRange spell_next_range rs rest (λ x us. next_range_begins EndsRange (λ p. (comma_closes p, other_mark kind.DotDot kind.Comma p refl)) x us) m.1)
    (reread_last _ (list_by (is_at kind.Comma) (next_range_by size depth) size) _ _ _ rs _ (reread_list spell_next_range IsProperNextRange (counts_own_next_range depth) (is_at kind.Comma) EndsRange (next_range_by size depth) size size (λ x p n. next_range_rereads size depth x p n) (λ x us p. record { found = next_range_begins (λ n. is_at kind.Comma n ≡ true) (mark_is_so kind.Comma) x us; good = next_range_begins EndsRange (λ p. (comma_closes p, other_mark kind.DotDot kind.Comma p refl)) x us }) next_range_some rs propers (omega (arith, short, long, some_range first)) (omega (arith, short, long))) refl)

pub ranges_rereads : (size depth : ℕ) (x : RangesTree) → IsProperRanges x → length (spell_ranges x) ≤ size → Rereads (EndsOption (is_at kind.Comma) EndsRange) (ranges_by size depth) (spell_ranges x) (counts_own_ranges depth x) x
ranges_rereads size depth (MakeRanges first rest) proper short =
    subst (λ (row : NextRangeRow). AreProperNextRange row → length (spell_ranges (MakeRanges first row)) ≤ size → Rereads (EndsOption (is_at kind.Comma) EndsRange) (ranges_by size depth) (spell_ranges (MakeRanges first row)) (counts_own_ranges depth (MakeRanges first row)) (MakeRanges first row)) (row_is rest)
    (by_list (list_of rest)) proper.1 short
  where
    by_list : (rs : List NextRangeTree) → AreProperNextRange (range_row rs) → length (spell_ranges (MakeRanges first (range_row rs))) ≤ size → Rereads (EndsOption (is_at kind.Comma) EndsRange) (ranges_by size depth) (spell_ranges (MakeRanges first (range_row rs))) (counts_own_ranges depth (MakeRanges first (range_row rs))) (MakeRanges first (range_row rs))
    by_list rs propers short =
        subst (λ (u : List Token). Rereads (EndsOption (is_at kind.Comma) EndsRange) (ranges_by size depth) (spell_range first ++ u) (counts_own_ranges depth (MakeRanges first (range_row rs))) (MakeRanges first (range_row rs))) (sym (ranges_spelled rs))
        (subst (λ (u : List Count). Rereads (EndsOption (is_at kind.Comma) EndsRange) (ranges_by size depth) (spell_range first ++ flat_map spell_next_range rs) (counts_own_range depth first ++ u) (MakeRanges first (range_row rs))) (sym (ranges_counted depth rs))
        (list_rereads size depth first rs proper.0 (all_proper rs propers) (subst (λ (u : List Token). length (spell_range first ++ u) ≤ size) (ranges_spelled rs) short)))
