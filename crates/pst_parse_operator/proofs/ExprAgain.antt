-- Expressions read what they spell again.
use Rattle.std.proofs.Common.{◌≡◌, ℕ, zero, suc, ◌+◌, ◌≤◌, ◌<◌, Bool, true, false, if◌then◌else◌, List, [], ◌∷◌, ◌++◌, length, Some, Option, None, refl, sym, ap, subst, arith, append-nil, append_assoc, length-append}
use Rattle.pst_base.specs.declared.position.Place.{Place}
use Rattle.pst_token.specs.declared.kind.Kind.TheVariants as kind
use Rattle.pst_token.specs.declared.token.Token.{Token}
use Rattle.pst_ast.specs.declared.leaf.Name.{Name}
use Rattle.pst_ast.specs.declared.leaf.Number.{Number}
use Rattle.pst_ast.specs.declared.leaf.PrefixOperator.{PrefixOperator}
use Rattle.pst_ast.specs.Marks.{mark, name_token, number_token, prefix_operator_kind}
use Rattle.pst_ast.specs.Limits.{Count, counted}
use Rattle.pst_ast.specs.ExpressionTree.{ExprTree, UnaryTree, UnaryPrefix, UnaryPrimary, PrimaryTree, PrimaryNumber, PrimaryTrue, PrimaryFalse, PrimaryPath, PrimaryGroup, PathTree, PathDotted, PathItem, PathLongItem, MakePart, RangesTree, MakeRanges, NextRangeTree, MakeNextRange, RangeTree, RangeSingle, RangeBetween, NextRangeRow, NoNextRangeRow, MoreNextRangeRow}
use Rattle.pst_ast.specs.ExpressionSpelling.{spell_expr, spell_unary, spell_primary, spell_path, spell_ranges, spell_next_range, spell_range, spell_next_range_row}
use Rattle.pst_ast.specs.ExpressionProper.{IsProperExpr, IsProperUnary, IsProperPrimary, IsProperRanges, IsProperNextRange, IsProperRange, AreProperNextRange}
use Rattle.pst_ast.specs.ExpressionOperators.{operators_expr, operators_range, operators_next_range_row}
use Rattle.pst_ast.specs.ExpressionLimits.{counts_expr, counts_unary, counts_primary, counts_path, counts_ranges, counts_next_range, counts_range, counts_next_range_row}
use Rattle.pst_reading.specs.Kinds.{is_mark, is_number, next_is}
use Rattle.pst_reading.specs.Parser.{Parser, Done, followed_by, next, mark_by, repeat_by}
use Rattle.pst_reading.proofs.Becoming.{Becomes, stays, becomes_on, becomes_followed, becomes_both}
use Rattle.pst_reading.proofs.Marks.{mark_becomes, look_becomes, take_becomes, test_becomes, choice_becomes, turn_becomes, row_ends}
use Rattle.pst_reading.proofs.Tokens.{mark_is_so}
use Rattle.pst_parse_operator.specs.Operators.{prefix_of, is_bare}
use Rattle.pst_parse_operator.specs.Reading.{Parsers, path_by, group_by, number_by, primary_by, prefix_by, unary_by, range_by, with_range, next_range_by, more_ranges_of, ranges_by, expr_at}
use Rattle.pst_parse_operator.proofs.Tokens.{prefix_is_so}
use Rattle.pst_parse_operator.proofs.Rows.{ranges_behind, ranges_end, ranges_go_on, all_ranges, operators_with_range}
use Rattle.pst_parse_operator.proofs.Stops.{IsNo, StopsPrimary, StopsUnary, Stops, Separates, separated, right_bracket_closes, comma_closes, dots_close}
use Rattle.pst_parse_operator.proofs.Again.{level_again}
use Rattle.pst_parse_operator.proofs.PartsAgain.{group_again, path_again}

-- which part the first token of a primary begins
pub record Begin (number left_parenthesis true_word false_word : Bool) (ts : List Token) : Type 0 where
  pub is_a_number : next_is is_number (next ts) ≡ number
  pub is_a_group : next_is (is_mark kind.LeftParenthesis) (next ts) ≡ left_parenthesis
  pub is_true : next_is (is_mark kind.True) (next ts) ≡ true_word
  pub is_false : next_is (is_mark kind.False) (next ts) ≡ false_word
  pub no_prefix : prefix_of (next ts) ≡ None

none_both : (b : Bool) (o : Option PrefixOperator) → (if b then o else o) ≡ o
none_both true o = refl
none_both false o = refl

begin_number : (n : Number) (ts : List Token) → Begin true false false false (number_token n ∷ ts)
unfolding is_mark is_number prefix_of is_bare
begin_number n ts = record { is_a_number = refl; is_a_group = refl; is_true = refl; is_false = refl; no_prefix = none_both _ None }

begin_true : (p : Place) (ts : List Token) → Begin false false true false (mark kind.True p ∷ ts)
unfolding is_mark is_number prefix_of is_bare
begin_true p ts = record { is_a_number = refl; is_a_group = refl; is_true = refl; is_false = refl; no_prefix = refl }

begin_false : (p : Place) (ts : List Token) → Begin false false false true (mark kind.False p ∷ ts)
unfolding is_mark is_number prefix_of is_bare
begin_false p ts = record { is_a_number = refl; is_a_group = refl; is_true = refl; is_false = refl; no_prefix = refl }

begin_group : (p : Place) (ts : List Token) → Begin false true false false (mark kind.LeftParenthesis p ∷ ts)
unfolding is_mark is_number prefix_of is_bare
begin_group p ts = record { is_a_number = refl; is_a_group = refl; is_true = refl; is_false = refl; no_prefix = refl }

begin_name : (n : Name) (ts : List Token) → Begin false false false false (name_token n ∷ ts)
unfolding is_mark is_number prefix_of is_bare
begin_name n ts = record { is_a_number = refl; is_a_group = refl; is_true = refl; is_false = refl; no_prefix = none_both _ None }

module _ (X : Parsers ExprTree) (size : ℕ) (A : (d b : ℕ) (e : ExprTree) (rest : List Token) → IsProperExpr e → length (spell_expr e) < size → Stops 0 e (next rest) → Becomes (X d b) (spell_expr e ++ rest) (counts_expr d b e) (Done e) rest) where
  -- the choices of a primary
  choices : (d b : ℕ) (number group true_word false_word : Bool) (ts us : List Token) (cs : List Count) (r : Parser PrimaryTree) → Begin number group true_word false_word ts
      → Becomes (if number then number_by d b else (if group then group_by X d b else (if true_word then followed_by (mark_by kind.True (counted d b)) (λ place. Done (PrimaryTrue place)) else (if false_word then followed_by (mark_by kind.False (counted d b)) (λ place. Done (PrimaryFalse place)) else followed_by (path_by X size d b) (λ path. Done (PrimaryPath path)))))) ts cs r us
      → Becomes (primary_by X size d b) ts cs r us
  choices d b true group true_word false_word ts us cs r w h = look_becomes _ ts us cs r (test_becomes (next_is is_number (next ts)) true (number_by d b) _ r ts us cs w.is_a_number h)
  choices d b false true true_word false_word ts us cs r w h = look_becomes _ ts us cs r (test_becomes (next_is is_number (next ts)) false (number_by d b) _ r ts us cs w.is_a_number (choice_becomes kind.LeftParenthesis (group_by X d b) _ r ts us cs true w.is_a_group h))
  choices d b false false true false_word ts us cs r w h = look_becomes _ ts us cs r (test_becomes (next_is is_number (next ts)) false (number_by d b) _ r ts us cs w.is_a_number (choice_becomes kind.LeftParenthesis (group_by X d b) _ r ts us cs false w.is_a_group (choice_becomes kind.True _ _ r ts us cs true w.is_true h)))
  choices d b false false false true ts us cs r w h = look_becomes _ ts us cs r (test_becomes (next_is is_number (next ts)) false (number_by d b) _ r ts us cs w.is_a_number (choice_becomes kind.LeftParenthesis (group_by X d b) _ r ts us cs false w.is_a_group (choice_becomes kind.True _ _ r ts us cs false w.is_true (choice_becomes kind.False _ _ r ts us cs true w.is_false h))))
  choices d b false false false false ts us cs r w h = look_becomes _ ts us cs r (test_becomes (next_is is_number (next ts)) false (number_by d b) _ r ts us cs w.is_a_number (choice_becomes kind.LeftParenthesis (group_by X d b) _ r ts us cs false w.is_a_group (choice_becomes kind.True _ _ r ts us cs false w.is_true (choice_becomes kind.False _ _ r ts us cs false w.is_false h))))

  begin_path : (p : PathTree) (rest : List Token) → Begin false false false false (spell_path p ++ rest)
  begin_path (PathDotted (MakePart name i) row) rest = begin_name name _
  begin_path (PathItem first c second) rest = begin_name first _
  begin_path (PathLongItem first c second m third) rest = begin_name first _

  primary_again : (d b : ℕ) (p : PrimaryTree) (rest : List Token) → IsProperPrimary p → length (spell_primary p) ≤ size → StopsPrimary p (next rest) → Becomes (primary_by X size d b) (spell_primary p ++ rest) (counts_primary d b p) (Done p) rest
  primary_again d b (PrimaryNumber n) rest proper short s = choices d b true false false false (number_token n ∷ rest) rest (counted d b ∷ []) (Done (PrimaryNumber n)) (begin_number n rest) (record { outcome = refl; taken = refl })
  primary_again d b (PrimaryTrue p) rest proper short s = choices d b false false true false (mark kind.True p ∷ rest) rest (counted d b ∷ []) (Done (PrimaryTrue p)) (begin_true p rest) (becomes_followed (mark_by kind.True (counted d b)) (Done p) (λ place. Done (PrimaryTrue place)) (mark kind.True p ∷ rest) rest (counted d b ∷ []) (mark_becomes kind.True (counted d b) p rest))
  primary_again d b (PrimaryFalse p) rest proper short s = choices d b false false false true (mark kind.False p ∷ rest) rest (counted d b ∷ []) (Done (PrimaryFalse p)) (begin_false p rest) (becomes_followed (mark_by kind.False (counted d b)) (Done p) (λ place. Done (PrimaryFalse place)) (mark kind.False p ∷ rest) rest (counted d b ∷ []) (mark_becomes kind.False (counted d b) p rest))
  primary_again d b (PrimaryPath p) rest proper short s = choices d b false false false false (spell_path p ++ rest) rest (counts_path d b p) (Done (PrimaryPath p)) (begin_path p rest) (becomes_followed (path_by X size d b) (Done p) (λ path. Done (PrimaryPath path)) (spell_path p ++ rest) rest (counts_path d b p) (path_again X size A d b p rest proper short s))
  primary_again d b (PrimaryGroup l e r) rest proper short s =
      subst (λ (u : List Token). Becomes (primary_by X size d b) (mark kind.LeftParenthesis l ∷ u) (counts_primary d b (PrimaryGroup l e r)) (Done (PrimaryGroup l e r)) rest) (sym (append_assoc (spell_expr e) (mark kind.RightParenthesis r ∷ []) rest))
      (choices d b false true false false (mark kind.LeftParenthesis l ∷ (spell_expr e ++ mark kind.RightParenthesis r ∷ rest)) rest (counts_primary d b (PrimaryGroup l e r)) (Done (PrimaryGroup l e r)) (begin_group l _)
      (group_again X size A d b l e r rest proper (omega (arith, short, length-append (spell_expr e) (mark kind.RightParenthesis r ∷ [])))))

  no_prefix_at : (p : PrimaryTree) (rest : List Token) → prefix_of (next (spell_primary p ++ rest)) ≡ None
  no_prefix_at (PrimaryNumber n) rest = (begin_number n rest).no_prefix
  no_prefix_at (PrimaryTrue p) rest = (begin_true p rest).no_prefix
  no_prefix_at (PrimaryFalse p) rest = (begin_false p rest).no_prefix
  no_prefix_at (PrimaryPath p) rest = (begin_path p rest).no_prefix
  no_prefix_at (PrimaryGroup l e r) rest = (begin_group l ((spell_expr e ++ mark kind.RightParenthesis r ∷ []) ++ rest)).no_prefix

  some_primary : (p : PrimaryTree) → 1 ≤ length (spell_primary p)
  some_primary (PrimaryNumber n) = omega arith
  some_primary (PrimaryTrue p) = omega arith
  some_primary (PrimaryFalse p) = omega arith
  some_primary (PrimaryPath (PathDotted (MakePart name i) row)) = omega arith
  some_primary (PrimaryPath (PathItem first c second)) = omega arith
  some_primary (PrimaryPath (PathLongItem first c second m third)) = omega arith
  some_primary (PrimaryGroup l e r) = omega arith

  pub some_unary : (u : UnaryTree) → 1 ≤ length (spell_unary u)
  some_unary (UnaryPrefix o p u) = omega arith
  some_unary (UnaryPrimary p) = some_primary p

  prefix_becomes : (prefixes d b : ℕ) (o : Option PrefixOperator) (ts us : List Token) (cs : List Count) (r : Parser UnaryTree) → prefix_of (next ts) ≡ o → Becomes (prefix_by (primary_by X size) (unary_by (primary_by X size) prefixes) d b o) ts cs r us → Becomes (unary_by (primary_by X size) (suc prefixes) d b) ts cs r us
  prefix_becomes prefixes d b o ts us cs r e h =
      look_becomes (λ next. prefix_by (primary_by X size) (unary_by (primary_by X size) prefixes) d b (prefix_of next)) ts us cs r
      (subst (λ (x : Option PrefixOperator). Becomes (prefix_by (primary_by X size) (unary_by (primary_by X size) prefixes) d b x) ts cs r us) (sym e) h)

  pub unary_again : (prefixes d b : ℕ) (u : UnaryTree) (rest : List Token) → IsProperUnary u → length (spell_unary u) ≤ prefixes → length (spell_unary u) ≤ size → StopsUnary u (next rest) → Becomes (unary_by (primary_by X size) prefixes d b) (spell_unary u ++ rest) (counts_unary d b u) (Done u) rest
  unary_again zero d b u rest proper few short s = absurd (omega (arith, few, some_unary u))
  unary_again (suc prefixes) d b (UnaryPrimary p) rest proper few short s =
      prefix_becomes prefixes d b None (spell_primary p ++ rest) rest (counts_primary d b p) (Done (UnaryPrimary p)) (no_prefix_at p rest)
      (becomes_followed (primary_by X size d b) (Done p) (λ q. Done (UnaryPrimary q)) (spell_primary p ++ rest) rest (counts_primary d b p) (primary_again d b p rest proper short s))
  unary_again (suc prefixes) d b (UnaryPrefix o p u) rest proper few short s =
      let c = counted (suc d) (suc b) in
      let ts = mark (prefix_operator_kind o) p ∷ (spell_unary u ++ rest) in
      prefix_becomes prefixes d b (Some o) ts rest (c ∷ counts_unary (suc d) (suc b) u) (Done (UnaryPrefix o p u)) (prefix_is_so o p)
      (take_becomes c (λ token. followed_by (unary_by (primary_by X size) prefixes (suc d) (suc b)) (λ operand. Done (UnaryPrefix o token.place operand))) (mark (prefix_operator_kind o) p) (spell_unary u ++ rest) rest (counts_unary (suc d) (suc b) u) (Done (UnaryPrefix o p u))
      (becomes_followed (unary_by (primary_by X size) prefixes (suc d) (suc b)) (Done u) (λ operand. Done (UnaryPrefix o p operand)) (spell_unary u ++ rest) rest (counts_unary (suc d) (suc b) u) (unary_again prefixes (suc d) (suc b) u rest proper (omega (arith, few)) (omega (arith, short)) s)))

  -- ---- ranges

  -- what ends a range: no `..`, and what ends its last expression
  record EndsRange (next : Option Token) : Type 0 where
    no_dots : IsNo kind.DotDot next
    apart : Separates 0 next

  no_dots_at_bracket : (p : Place) → EndsRange (Some (mark kind.RightBracket p))
  unfolding is_mark
  no_dots_at_bracket p = record { no_dots = refl; apart = right_bracket_closes p }

  no_dots_at_comma : (p : Place) → EndsRange (Some (mark kind.Comma p))
  unfolding is_mark
  no_dots_at_comma p = record { no_dots = refl; apart = comma_closes p }

  range_again : (d b : ℕ) (r : RangeTree) (rest : List Token) → IsProperRange r → length (spell_range r) < size → EndsRange (next rest) → Becomes (range_by X d b) (spell_range r ++ rest) (counts_range d b r) (Done r) rest
  range_again d b (RangeSingle e) rest proper short s =
      subst (λ (cs : List Count). Becomes (range_by X d b) (spell_expr e ++ rest) cs (Done (RangeSingle e)) rest) (append-nil (counts_expr d b e))
      (becomes_both (X d b) _ e _ _ rest rest (counts_expr d b e) [] (A d b e rest proper short (separated 0 (next rest) s.apart e proper 0 (omega arith) (omega arith)))
      (choice_becomes kind.DotDot _ (Done (RangeSingle e)) (Done (RangeSingle e)) rest rest [] false s.no_dots (stays (Done (RangeSingle e)) rest)))
  range_again d b (RangeBetween low p high) rest proper short s =
      let b' = b + operators_expr low in
      let c = counted d b' in
      let long = length-append (spell_expr low) (mark kind.DotDot p ∷ spell_expr high) in
      let us = mark kind.DotDot p ∷ (spell_expr high ++ rest) in
      subst (λ (u : List Token). Becomes (range_by X d b) u (counts_range d b (RangeBetween low p high)) (Done (RangeBetween low p high)) rest) (sym (append_assoc (spell_expr low) (mark kind.DotDot p ∷ spell_expr high) rest))
      (becomes_both (X d b) _ low _ _ us rest (counts_expr d b low) (c ∷ counts_expr d b' high) (A d b low us proper.0 (omega (arith, short, long)) (separated 0 (Some (mark kind.DotDot p)) (dots_close p) low proper.0 0 (omega arith) (omega arith)))
      (choice_becomes kind.DotDot _ (Done (RangeSingle low)) (Done (RangeBetween low p high)) us rest (c ∷ counts_expr d b' high) true (mark_is_so kind.DotDot p)
      (becomes_both (mark_by kind.DotDot c) _ p _ _ (spell_expr high ++ rest) rest (c ∷ []) (counts_expr d b' high) (mark_becomes kind.DotDot c p _)
      (becomes_followed (X d b') (Done high) (λ x. Done (RangeBetween low p x)) (spell_expr high ++ rest) rest (counts_expr d b' high) (A d b' high rest proper.1 (omega (arith, short, long)) (separated 0 (next rest) s.apart high proper.1 0 (omega arith) (omega arith)))))))

  next_range_again : (d b : ℕ) (r : NextRangeTree) (rest : List Token) → IsProperNextRange r → length (spell_next_range r) ≤ size → EndsRange (next rest) → Becomes (next_range_by X d b) (spell_next_range r ++ rest) (counts_next_range d b r) (Done r) rest
  next_range_again d b (MakeNextRange comma range) rest proper short s =
      let c = counted d b in
      becomes_both (mark_by kind.Comma c) _ comma _ _ (spell_range range ++ rest) rest (c ∷ []) (counts_range d b range) (mark_becomes kind.Comma c comma _)
      (becomes_followed (range_by X d b) (Done range) (λ r. Done (MakeNextRange comma r)) (spell_range range ++ rest) rest (counts_range d b range) (range_again d b range rest proper (omega (arith, short)) s))

  row_ends_range : (tail : NextRangeRow) (rest : List Token) → EndsRange (next rest) → EndsRange (next (spell_next_range_row tail ++ rest))
  row_ends_range NoNextRangeRow rest s = s
  row_ends_range (MoreNextRangeRow (MakeNextRange comma range) tail) rest s = no_dots_at_comma comma

  ranges_done : (d b m : ℕ) (row : NextRangeRow) (rest : List Token) → 1 ≤ m → IsNo kind.Comma (next rest) → Becomes (repeat_by (more_ranges_of X d b) m row) rest [] (Done row) rest
  ranges_done d b zero row rest le s = absurd (omega (arith, le))
  ranges_done d b (suc m) row rest le s = row_ends (more_ranges_of X d b) m row rest (ap (λ (x : Bool). if x then Some (followed_by (next_range_by X d (b + operators_next_range_row row)) (λ range. Done (with_range row range))) else None) s)

  more_again : (d b : ℕ) (todo row : NextRangeRow) (m : ℕ) (rest : List Token) → AreProperNextRange todo → length (spell_next_range_row todo) < m → length (spell_next_range_row todo) ≤ size → EndsRange (next rest) → IsNo kind.Comma (next rest) → Becomes (repeat_by (more_ranges_of X d b) m row) (spell_next_range_row todo ++ rest) (counts_next_range_row d (b + operators_next_range_row row) todo) (Done (ranges_behind row todo)) rest
  more_again d b NoNextRangeRow row m rest proper turns short s comma_free =
      subst (λ (r : NextRangeRow). Becomes (repeat_by (more_ranges_of X d b) m row) rest [] (Done r) rest) (sym (ranges_end row)) (ranges_done d b m row rest (omega (arith, turns)) comma_free)
  more_again d b (MoreNextRangeRow head tail) row zero rest proper turns short s comma_free = absurd (omega (arith, turns))
  more_again d b (MoreNextRangeRow (MakeNextRange comma range) tail) row (suc m) rest proper turns short s comma_free =
      let head = MakeNextRange comma range in
      let b' = b + operators_next_range_row row in
      let long = length-append (spell_next_range head) (spell_next_range_row tail) in
      let ts = spell_next_range head ++ (spell_next_range_row tail ++ rest) in
      let us = spell_next_range_row tail ++ rest in
      let part = followed_by (next_range_by X d b') (λ p. Done (with_range row p)) in
      let begins : more_ranges_of X d b row (next ts) ≡ Some part = ap (λ (x : Bool). if x then Some (followed_by (next_range_by X d (b + operators_next_range_row row)) (λ p. Done (with_range row p))) else None) (mark_is_so kind.Comma comma) in
      let h = turn_becomes (more_ranges_of X d b) m row (with_range row head) part ts us (counts_next_range d b' head) begins
      (becomes_followed (next_range_by X d b') (Done head) (λ p. Done (with_range row p)) ts us (counts_next_range d b' head) (next_range_again d b' head us proper.0 (omega (arith, short, long)) (row_ends_range tail rest s))) in
      let count : b + operators_next_range_row (with_range row head) ≡ b' + operators_range range = (let e = operators_with_range row head in omega (arith, e)) in
      let k = more_again d b tail (with_range row head) m rest proper.1 (omega (arith, turns, long)) (omega (arith, short, long)) s comma_free in
      let j = becomes_on (repeat_by (more_ranges_of X d b) (suc m) row) (repeat_by (more_ranges_of X d b) m (with_range row head)) (Done (ranges_behind (with_range row head) tail)) ts us rest (counts_next_range d b' head) (counts_next_range_row d (b' + operators_range range) tail) h (subst (λ (n : ℕ). Becomes (repeat_by (more_ranges_of X d b) m (with_range row head)) us (counts_next_range_row d n tail) (Done (ranges_behind (with_range row head) tail)) rest) count k) in
      subst (λ (u : List Token). Becomes (repeat_by (more_ranges_of X d b) (suc m) row) u (counts_next_range_row d b' (MoreNextRangeRow head tail)) (Done (ranges_behind row (MoreNextRangeRow head tail))) rest) (sym (append_assoc (spell_next_range head) (spell_next_range_row tail) rest))
      (subst (λ (r : NextRangeRow). Becomes (repeat_by (more_ranges_of X d b) (suc m) row) ts (counts_next_range_row d b' (MoreNextRangeRow head tail)) (Done r) rest) (sym (ranges_go_on row head tail)) j)

  no_comma_at_bracket : (p : Place) → IsNo kind.Comma (Some (mark kind.RightBracket p))
  unfolding is_mark
  no_comma_at_bracket p = refl

  pub ranges_again : (d b : ℕ) (rs : RangesTree) (place : Place) (rest : List Token) → IsProperRanges rs → length (spell_ranges rs) < size → Becomes (ranges_by X size d b) (spell_ranges rs ++ mark kind.RightBracket place ∷ rest) (counts_ranges d b rs) (Done rs) (mark kind.RightBracket place ∷ rest)
  ranges_again d b (MakeRanges first row) place rest proper short =
      let b' = b + operators_range first in
      let end = mark kind.RightBracket place ∷ rest in
      let us = spell_next_range_row row ++ end in
      let long = length-append (spell_range first) (spell_next_range_row row) in
      let none : b' + 0 ≡ b' = omega arith in
      let k = more_again d b' row NoNextRangeRow size end proper.1 (omega (arith, short, long)) (omega (arith, short, long)) (no_dots_at_bracket place) (no_comma_at_bracket place) in
      let k' = subst (λ (n : ℕ). Becomes (repeat_by (more_ranges_of X d b') size NoNextRangeRow) us (counts_next_range_row d n row) (Done (ranges_behind NoNextRangeRow row)) end) none k in
      let k'' = subst (λ (r : NextRangeRow). Becomes (repeat_by (more_ranges_of X d b') size NoNextRangeRow) us (counts_next_range_row d b' row) (Done r) end) (all_ranges row) k' in
      subst (λ (u : List Token). Becomes (ranges_by X size d b) u (counts_ranges d b (MakeRanges first row)) (Done (MakeRanges first row)) end) (sym (append_assoc (spell_range first) (spell_next_range_row row) end))
      (becomes_both (range_by X d b) _ first _ _ us end (counts_range d b first) (counts_next_range_row d b' row) (range_again d b first us proper.0 (omega (arith, short, long)) (row_ends_range row end (no_dots_at_bracket place)))
      (becomes_followed (repeat_by (more_ranges_of X d b') size NoNextRangeRow) (Done row) (λ r. Done (MakeRanges first r)) us end (counts_next_range_row d b' row) k''))

-- ---- expressions

pub expr_again : (size d b : ℕ) (e : ExprTree) (rest : List Token) → IsProperExpr e → length (spell_expr e) < size → Stops 0 e (next rest) → Becomes (expr_at size d b) (spell_expr e ++ rest) (counts_expr d b e) (Done e) rest
unfolding expr_at
expr_again zero d b e rest proper short s = absurd (omega (arith, short))
expr_again (suc size) d b e rest proper short s =
    level_again (unary_by (primary_by (expr_at size) size) (suc size)) (ranges_by (expr_at size) size) size d
    (λ before u more p n t. unary_again (expr_at size) size (expr_again size) (suc size) d before u more p (omega (arith, n)) n t)
    (λ before rs place more p n. ranges_again (expr_at size) size (expr_again size) d before rs place more p n)
    (some_unary (expr_at size) size (expr_again size))
    10 0 refl b e rest proper (omega arith) (omega (arith, short)) s
