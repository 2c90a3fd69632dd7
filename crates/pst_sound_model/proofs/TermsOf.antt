-- The terms of expressions whose paths stand for numbers and blocks.
use Rattle.std.proofs.Common.{inr}
use Rattle.std.specs.Prelude.{ℕ, List, ◌∷◌, ◌++◌, Option, Some, None}
use Rattle.pst_ast.specs.ExpressionTree.{ExprTree, ExprUnary, ExprBinary, ExprIn, UnaryTree, UnaryPrefix, UnaryPrimary, PrimaryTree, PrimaryNumber, PrimaryTrue, PrimaryFalse, PrimaryPath, PrimaryGroup, PathTree, PathDotted, PathItem, PathLongItem, PartTree, MakePart, NextPartTree, MakeNextPart, IndexTree, MakeIndex, RangesTree, MakeRanges, NextRangeTree, MakeNextRange, RangeTree, RangeSingle, RangeBetween, NextPartRow, NoNextPartRow, MoreNextPartRow, MaybeIndex, NoIndex, SomeIndex, NextRangeRow, NoNextRangeRow, MoreNextRangeRow}
use Rattle.pst_expr.specs.declared.tree.BinaryOp.TheVariants.{Or}
use Rattle.pst_model.specs.ConstraintTree.{SlotTree}
use Rattle.pst_ast.specs.declared.environment.Environment.{Environment}
use Rattle.pst_ast.specs.Uses.{Use, Reads, part_of, parts_of, expr_uses, unary_uses, primary_uses, path_uses, part_uses, index_uses, next_part_uses, dotted_uses, ranges_uses, range_uses, next_range_uses, comma_range_uses}
use Rattle.pst_terms.specs.Terms.{Term, Infix, Reading, ANumber, AThing, AnArray, term_at, first_some, term_of, unary_term, primary_term, path_index, part_index, maybe_index, index_term, row_index, dotted_index, ranges_term, or_ranges, next_range_term, range_term}
use Rattle.pst_sound_model.specs.Blocks.{HasBlocks}
use Rattle.pst_sound_model.specs.Used.{IsGood}
use Rattle.pst_sound_model.proofs.Members.{In, to_left, to_right}

-- P holds of each use
abbrev pub Each : (Use → Type 0) → List Use → Type 0
Each P us = (u : Use) → In u us → P u

pub each_left : (P : Use → Type 0) (us vs : List Use) → Each P (us ++ vs) → Each P us
each_left P us vs all u there = all u (to_left us vs u there)

pub each_right : (P : Use → Type 0) (us vs : List Use) → Each P (us ++ vs) → Each P vs
each_right P us vs all u there = all u (to_right us vs u there)

pub each_more : (P : Use → Type 0) (v : Use) (us : List Use) → Each P (v ∷ us) → Each P us
each_more P v us all u there = all u (inr there)

module _ (IsRow : SlotTree → ℕ → ℕ → Type 0) (P : Use → Type 0) (at : Environment) (read : PathTree → Reading SlotTree) (good : (path : PathTree) → Each P (path_uses at path) → IsGood IsRow (read path)) where
  abbrev MaybeBlocks : Option (Term SlotTree) → Type 0
  MaybeBlocks None = Unit {0}
  MaybeBlocks (Some term) = HasBlocks IsRow term

  blocks_at : (r : Reading SlotTree) → IsGood IsRow r → (i : Option (Term SlotTree)) → MaybeBlocks i → HasBlocks IsRow (term_at r i)
  blocks_at (ANumber n) g i m = tt
  blocks_at (AThing x) g i m = g
  blocks_at (AnArray elements) g None m = tt
  blocks_at (AnArray elements) g (Some i) m = (g, m)

  first_blocks : (a b : Option (Term SlotTree)) → MaybeBlocks a → MaybeBlocks b → MaybeBlocks (first_some a b)
  first_blocks None b m n = n
  first_blocks (Some a) b m n = m

  mutual
    pub term_blocks : (e : ExprTree) → Each P (expr_uses at e) → HasBlocks IsRow (term_of read e)
    term_blocks (ExprUnary unary) all = unary_blocks unary all
    term_blocks (ExprBinary left operator place right) all =
        (term_blocks left (each_left P (expr_uses at left) (expr_uses at right) all), term_blocks right (each_right P (expr_uses at left) (expr_uses at right) all))
    term_blocks (ExprIn left in_place opening ranges close) all =
        ranges_blocks (term_of read left) (term_blocks left (each_left P (expr_uses at left) (ranges_uses at ranges) all)) ranges (each_right P (expr_uses at left) (ranges_uses at ranges) all)

    unary_blocks : (u : UnaryTree) → Each P (unary_uses at u) → HasBlocks IsRow (unary_term read u)
    unary_blocks (UnaryPrefix operator place operand) all = unary_blocks operand all
    unary_blocks (UnaryPrimary primary) all = primary_blocks primary all

    primary_blocks : (p : PrimaryTree) → Each P (primary_uses at p) → HasBlocks IsRow (primary_term read p)
    primary_blocks (PrimaryNumber number) all = tt
    primary_blocks (PrimaryTrue place) all = tt
    primary_blocks (PrimaryFalse place) all = tt
    primary_blocks (PrimaryPath path) all = blocks_at (read path) (good path all) (path_index read path) (path_index_blocks path all)
    primary_blocks (PrimaryGroup left expr right) all = term_blocks expr all

    path_index_blocks : (path : PathTree) → Each P (path_uses at path) → MaybeBlocks (path_index read path)
    path_index_blocks (PathDotted first rest) all =
        let inner : Each P (part_uses at first ++ next_part_uses at rest) = each_more P (Reads at (part_of first) (parts_of rest)) (part_uses at first ++ next_part_uses at rest) all in
        first_blocks (part_index read first) (row_index read rest) (part_blocks first (each_left P (part_uses at first) (next_part_uses at rest) inner)) (row_blocks rest (each_right P (part_uses at first) (next_part_uses at rest) inner))
    path_index_blocks (PathItem first colons second) all = tt
    path_index_blocks (PathLongItem first colons second more_colons third) all = tt

    part_blocks : (part : PartTree) → Each P (part_uses at part) → MaybeBlocks (part_index read part)
    part_blocks (MakePart name index) all = maybe_blocks index all

    maybe_blocks : (index : MaybeIndex) → Each P (index_uses at index) → MaybeBlocks (maybe_index read index)
    maybe_blocks NoIndex all = tt
    maybe_blocks (SomeIndex index) all = index_blocks index all

    index_blocks : (index : IndexTree) → Each P (index_uses at (SomeIndex index)) → HasBlocks IsRow (index_term read index)
    index_blocks (MakeIndex left expr right) all = term_blocks expr all

    row_blocks : (row : NextPartRow) → Each P (next_part_uses at row) → MaybeBlocks (row_index read row)
    row_blocks NoNextPartRow all = tt
    row_blocks (MoreNextPartRow head tail) all =
        first_blocks (dotted_index read head) (row_index read tail) (dotted_blocks head (each_left P (dotted_uses at head) (next_part_uses at tail) all)) (row_blocks tail (each_right P (dotted_uses at head) (next_part_uses at tail) all))

    dotted_blocks : (part : NextPartTree) → Each P (dotted_uses at part) → MaybeBlocks (dotted_index read part)
    dotted_blocks (MakeNextPart dot part) all = part_blocks part all

    ranges_blocks : (x : Term SlotTree) → HasBlocks IsRow x → (ranges : RangesTree) → Each P (ranges_uses at ranges) → HasBlocks IsRow (ranges_term read x ranges)
    ranges_blocks x h (MakeRanges first rest) all =
        or_blocks x h (range_term read x first) (range_blocks x h first (each_left P (range_uses at first) (next_range_uses at rest) all)) rest (each_right P (range_uses at first) (next_range_uses at rest) all)

    or_blocks : (x : Term SlotTree) → HasBlocks IsRow x → (before : Term SlotTree) → HasBlocks IsRow before → (row : NextRangeRow) → Each P (next_range_uses at row) → HasBlocks IsRow (or_ranges read x before row)
    or_blocks x h before b NoNextRangeRow all = b
    or_blocks x h before b (MoreNextRangeRow head tail) all =
        or_blocks x h (Infix Or before (next_range_term read x head)) (b, comma_blocks x h head (each_left P (comma_range_uses at head) (next_range_uses at tail) all)) tail (each_right P (comma_range_uses at head) (next_range_uses at tail) all)

    comma_blocks : (x : Term SlotTree) → HasBlocks IsRow x → (range : NextRangeTree) → Each P (comma_range_uses at range) → HasBlocks IsRow (next_range_term read x range)
    comma_blocks x h (MakeNextRange comma range) all = range_blocks x h range all

    range_blocks : (x : Term SlotTree) → HasBlocks IsRow x → (range : RangeTree) → Each P (range_uses at range) → HasBlocks IsRow (range_term read x range)
    range_blocks x h (RangeSingle expr) all = (h, term_blocks expr all)
    range_blocks x h (RangeBetween low dots high) all =
        ((h, term_blocks low (each_left P (expr_uses at low) (expr_uses at high) all)), (h, term_blocks high (each_right P (expr_uses at low) (expr_uses at high) all)))
