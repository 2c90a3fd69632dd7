-- One more part at the end of a row.
use Rattle.std.proofs.Common.{◌≡◌, ℕ, ◌+◌, List, ◌∷◌, ◌++◌, refl, sym, ap, ◌∙◌, arith, append-nil, append_assoc}
use Rattle.pst_ast.specs.ExpressionTree.{NextPartTree, MakeNextPart, NextPartRow, NoNextPartRow, MoreNextPartRow, NextRangeTree, MakeNextRange, NextRangeRow, NoNextRangeRow, MoreNextRangeRow}
use Rattle.pst_ast.specs.ExpressionSpelling.{spell_next_part, spell_next_part_row, spell_next_range, spell_next_range_row}
use Rattle.pst_ast.specs.ExpressionProper.{IsProperNextPart, AreProperNextPart, IsProperNextRange, AreProperNextRange}
use Rattle.pst_ast.specs.ExpressionOperators.{operators_part, operators_next_part, operators_next_part_row, operators_range, operators_next_range, operators_next_range_row}
use Rattle.pst_ast.specs.ExpressionLimits.{counts_part, counts_next_part, counts_next_part_row, counts_range, counts_next_range, counts_next_range_row}
use Rattle.pst_ast.specs.Limits.{Count, counted}
use Rattle.pst_parse_operator.specs.Reading.{with_part, with_range}

pub spell_with_part : (row : NextPartRow) (p : NextPartTree) → spell_next_part_row (with_part row p) ≡ spell_next_part_row row ++ spell_next_part p
spell_with_part NoNextPartRow p = append-nil (spell_next_part p)
spell_with_part (MoreNextPartRow head tail) p = rw (spell_with_part tail p) (sym (append_assoc (spell_next_part head) (spell_next_part_row tail) (spell_next_part p)))

pub proper_with_part : (row : NextPartRow) (p : NextPartTree) → AreProperNextPart row → IsProperNextPart p → AreProperNextPart (with_part row p)
proper_with_part NoNextPartRow p h k = (k, tt)
proper_with_part (MoreNextPartRow head tail) p h k = (h.0, proper_with_part tail p h.1 k)

pub counts_with_part : (depth before : ℕ) (row : NextPartRow) (p : NextPartTree) → counts_next_part_row depth before (with_part row p) ≡ counts_next_part_row depth before row ++ counts_next_part depth (before + operators_next_part_row row) p
counts_with_part depth before NoNextPartRow (MakeNextPart dot part) =
    let e : before + 0 ≡ before = omega arith in
    rw e (ap (λ (u : List Count). counted depth before ∷ u) (append-nil (counts_part depth before part)))
counts_with_part depth before (MoreNextPartRow (MakeNextPart dot part) tail) p =
    let e : (before + operators_part part) + operators_next_part_row tail ≡ before + (operators_part part + operators_next_part_row tail) = omega arith in
    rw (counts_with_part depth (before + operators_part part) tail p, e) (ap (λ (u : List Count). counted depth before ∷ u) (sym (append_assoc (counts_part depth before part) (counts_next_part_row depth (before + operators_part part) tail) (counts_next_part depth (before + (operators_part part + operators_next_part_row tail)) p))))

pub spell_with_range : (row : NextRangeRow) (r : NextRangeTree) → spell_next_range_row (with_range row r) ≡ spell_next_range_row row ++ spell_next_range r
spell_with_range NoNextRangeRow r = append-nil (spell_next_range r)
spell_with_range (MoreNextRangeRow head tail) r = rw (spell_with_range tail r) (sym (append_assoc (spell_next_range head) (spell_next_range_row tail) (spell_next_range r)))

pub proper_with_range : (row : NextRangeRow) (r : NextRangeTree) → AreProperNextRange row → IsProperNextRange r → AreProperNextRange (with_range row r)
proper_with_range NoNextRangeRow r h k = (k, tt)
proper_with_range (MoreNextRangeRow head tail) r h k = (h.0, proper_with_range tail r h.1 k)

pub counts_with_range : (depth before : ℕ) (row : NextRangeRow) (r : NextRangeTree) → counts_next_range_row depth before (with_range row r) ≡ counts_next_range_row depth before row ++ counts_next_range depth (before + operators_next_range_row row) r
counts_with_range depth before NoNextRangeRow (MakeNextRange comma range) =
    let e : before + 0 ≡ before = omega arith in
    rw e (ap (λ (u : List Count). counted depth before ∷ u) (append-nil (counts_range depth before range)))
counts_with_range depth before (MoreNextRangeRow (MakeNextRange comma range) tail) r =
    let e : (before + operators_range range) + operators_next_range_row tail ≡ before + (operators_range range + operators_next_range_row tail) = omega arith in
    rw (counts_with_range depth (before + operators_range range) tail r, e) (ap (λ (u : List Count). counted depth before ∷ u) (sym (append_assoc (counts_range depth before range) (counts_next_range_row depth (before + operators_range range) tail) (counts_next_range depth (before + (operators_range range + operators_next_range_row tail)) r))))

-- ---- a row behind a row

pub parts_behind : NextPartRow → NextPartRow → NextPartRow
parts_behind row NoNextPartRow = row
parts_behind row (MoreNextPartRow head tail) = parts_behind (with_part row head) tail

joined : NextPartRow → NextPartRow → NextPartRow
joined NoNextPartRow more = more
joined (MoreNextPartRow head tail) more = MoreNextPartRow head (joined tail more)

joined_one : (row : NextPartRow) (p : NextPartTree) (more : NextPartRow) → joined (with_part row p) more ≡ joined row (MoreNextPartRow p more)
unfolding joined
joined_one NoNextPartRow p more = refl
joined_one (MoreNextPartRow head tail) p more = ap (MoreNextPartRow head) (joined_one tail p more)

joined_none : (row : NextPartRow) → joined row NoNextPartRow ≡ row
unfolding joined
joined_none NoNextPartRow = refl
joined_none (MoreNextPartRow head tail) = ap (MoreNextPartRow head) (joined_none tail)

are_joined : (row more : NextPartRow) → parts_behind row more ≡ joined row more
unfolding joined parts_behind
are_joined row NoNextPartRow = sym (joined_none row)
are_joined row (MoreNextPartRow head tail) = are_joined (with_part row head) tail ∙ joined_one row head tail

pub all_parts : (more : NextPartRow) → parts_behind NoNextPartRow more ≡ more
unfolding joined
all_parts more = are_joined NoNextPartRow more

pub parts_end : (row : NextPartRow) → parts_behind row NoNextPartRow ≡ row
unfolding parts_behind
parts_end row = refl

pub parts_go_on : (row : NextPartRow) (head : NextPartTree) (tail : NextPartRow) → parts_behind row (MoreNextPartRow head tail) ≡ parts_behind (with_part row head) tail
unfolding parts_behind
parts_go_on row head tail = refl

pub operators_with_part : (row : NextPartRow) (p : NextPartTree) → operators_next_part_row (with_part row p) ≡ operators_next_part_row row + operators_next_part p
operators_with_part NoNextPartRow p = omega arith
operators_with_part (MoreNextPartRow head tail) p = let e = operators_with_part tail p in omega (arith, e)

pub ranges_behind : NextRangeRow → NextRangeRow → NextRangeRow
ranges_behind row NoNextRangeRow = row
ranges_behind row (MoreNextRangeRow head tail) = ranges_behind (with_range row head) tail

chained : NextRangeRow → NextRangeRow → NextRangeRow
chained NoNextRangeRow more = more
chained (MoreNextRangeRow head tail) more = MoreNextRangeRow head (chained tail more)

chained_one : (row : NextRangeRow) (r : NextRangeTree) (more : NextRangeRow) → chained (with_range row r) more ≡ chained row (MoreNextRangeRow r more)
unfolding chained
chained_one NoNextRangeRow r more = refl
chained_one (MoreNextRangeRow head tail) r more = ap (MoreNextRangeRow head) (chained_one tail r more)

chained_none : (row : NextRangeRow) → chained row NoNextRangeRow ≡ row
unfolding chained
chained_none NoNextRangeRow = refl
chained_none (MoreNextRangeRow head tail) = ap (MoreNextRangeRow head) (chained_none tail)

are_chained : (row more : NextRangeRow) → ranges_behind row more ≡ chained row more
unfolding chained ranges_behind
are_chained row NoNextRangeRow = sym (chained_none row)
are_chained row (MoreNextRangeRow head tail) = are_chained (with_range row head) tail ∙ chained_one row head tail

pub all_ranges : (more : NextRangeRow) → ranges_behind NoNextRangeRow more ≡ more
unfolding chained
all_ranges more = are_chained NoNextRangeRow more

pub ranges_end : (row : NextRangeRow) → ranges_behind row NoNextRangeRow ≡ row
unfolding ranges_behind
ranges_end row = refl

pub ranges_go_on : (row : NextRangeRow) (head : NextRangeTree) (tail : NextRangeRow) → ranges_behind row (MoreNextRangeRow head tail) ≡ ranges_behind (with_range row head) tail
unfolding ranges_behind
ranges_go_on row head tail = refl

pub operators_with_range : (row : NextRangeRow) (r : NextRangeTree) → operators_next_range_row (with_range row r) ≡ operators_next_range_row row + operators_next_range r
operators_with_range NoNextRangeRow r = omega arith
operators_with_range (MoreNextRangeRow head tail) r = let e = operators_with_range tail r in omega (arith, e)
