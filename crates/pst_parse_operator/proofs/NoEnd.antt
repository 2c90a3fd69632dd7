-- No expression has the token `End` in it.
use Rattle.std.proofs.Common.{◌≡◌, ◌≢◌, Some, None, sym, ap, ◌∙◌}
use Rattle.pst_token.specs.declared.kind.Kind.TheVariants as kind
use Rattle.pst_ast.specs.declared.leaf.Operator.{Operator}
use Rattle.pst_ast.specs.declared.leaf.PrefixOperator.{PrefixOperator}
use Rattle.pst_ast.specs.Marks.{operator_kind, prefix_operator_kind}
use Rattle.pst_ast.specs.ExpressionTree.{ExprTree, ExprUnary, ExprBinary, ExprIn, UnaryTree, UnaryPrefix, UnaryPrimary, PrimaryTree, PrimaryNumber, PrimaryTrue, PrimaryFalse, PrimaryPath, PrimaryGroup, PathTree, PathDotted, PathItem, PathLongItem, PartTree, MakePart, NextPartTree, MakeNextPart, IndexTree, MakeIndex, RangesTree, MakeRanges, NextRangeTree, MakeNextRange, RangeTree, RangeSingle, RangeBetween, NextPartRow, NoNextPartRow, MoreNextPartRow, MaybeIndex, NoIndex, SomeIndex, NextRangeRow, NoNextRangeRow, MoreNextRangeRow}
use Rattle.pst_ast.specs.ExpressionSpelling.{spell_expr, spell_unary, spell_primary, spell_path, spell_part, spell_next_part, spell_index, spell_ranges, spell_next_range, spell_range, spell_next_part_row, spell_maybe_index, spell_next_range_row}
use Rattle.pst_reading.proofs.Whole.{NoEnd, both_free}
use Rattle.pst_parse_operator.specs.Operators.{operator_of_kind, prefix_of_kind}
use Rattle.pst_parse_operator.proofs.Tokens.{kind_is_so, prefix_kind_is_so}

operator_free : (o : Operator) → operator_kind o ≢ kind.End
operator_free o e = some_none (sym (kind_is_so o) ∙ ap operator_of_kind e)
  where
    some_none : Some o ≡ None → ⊥
    some_none f = cc

prefix_free : (o : PrefixOperator) → prefix_operator_kind o ≢ kind.End
prefix_free o e = some_none (sym (prefix_kind_is_so o) ∙ ap prefix_of_kind e)
  where
    some_none : Some o ≡ None → ⊥
    some_none f = cc

mutual
  pub expr_free : (e : ExprTree) → NoEnd (spell_expr e)
  expr_free (ExprUnary u) = unary_free u
  expr_free (ExprBinary l o p r) = both_free (spell_expr l) _ (expr_free l) (operator_free o, expr_free r)
  expr_free (ExprIn l p b rs c) = both_free (spell_expr l) _ (expr_free l) (λ e. cc, (λ e. cc, both_free (spell_ranges rs) _ (ranges_free rs) (λ e. cc, tt)))

  unary_free : (u : UnaryTree) → NoEnd (spell_unary u)
  unary_free (UnaryPrefix o p u) = (prefix_free o, unary_free u)
  unary_free (UnaryPrimary p) = primary_free p

  primary_free : (p : PrimaryTree) → NoEnd (spell_primary p)
  primary_free (PrimaryNumber n) = (λ e. cc, tt)
  primary_free (PrimaryTrue p) = (λ e. cc, tt)
  primary_free (PrimaryFalse p) = (λ e. cc, tt)
  primary_free (PrimaryPath p) = path_free p
  primary_free (PrimaryGroup l e r) = (λ f. cc, both_free (spell_expr e) _ (expr_free e) (λ f. cc, tt))

  path_free : (p : PathTree) → NoEnd (spell_path p)
  path_free (PathDotted part rest) = both_free (spell_part part) (spell_next_part_row rest) (part_free part) (row_free rest)
  path_free (PathItem a c b) = (λ e. cc, (λ e. cc, (λ e. cc, tt)))
  path_free (PathLongItem a c b d f) = (λ e. cc, (λ e. cc, (λ e. cc, (λ e. cc, (λ e. cc, tt)))))

  pub part_free : (p : PartTree) → NoEnd (spell_part p)
  part_free (MakePart name index) = (λ e. cc, maybe_free index)

  next_free : (p : NextPartTree) → NoEnd (spell_next_part p)
  next_free (MakeNextPart dot part) = (λ e. cc, part_free part)

  index_free : (i : IndexTree) → NoEnd (spell_index i)
  index_free (MakeIndex l e r) = (λ f. cc, both_free (spell_expr e) _ (expr_free e) (λ f. cc, tt))

  pub ranges_free : (rs : RangesTree) → NoEnd (spell_ranges rs)
  ranges_free (MakeRanges first rest) = both_free (spell_range first) _ (range_free first) (more_free rest)

  next_range_free : (r : NextRangeTree) → NoEnd (spell_next_range r)
  next_range_free (MakeNextRange comma range) = (λ e. cc, range_free range)

  range_free : (r : RangeTree) → NoEnd (spell_range r)
  range_free (RangeSingle e) = expr_free e
  range_free (RangeBetween low p high) = both_free (spell_expr low) _ (expr_free low) (λ e. cc, expr_free high)

  row_free : (r : NextPartRow) → NoEnd (spell_next_part_row r)
  row_free NoNextPartRow = tt
  row_free (MoreNextPartRow head tail) = both_free (spell_next_part head) (spell_next_part_row tail) (next_free head) (row_free tail)

  maybe_free : (i : MaybeIndex) → NoEnd (spell_maybe_index i)
  maybe_free NoIndex = tt
  maybe_free (SomeIndex i) = index_free i

  more_free : (r : NextRangeRow) → NoEnd (spell_next_range_row r)
  more_free NoNextRangeRow = tt
  more_free (MoreNextRangeRow head tail) = both_free (spell_next_range head) (spell_next_range_row tail) (next_range_free head) (more_free tail)
