-- Where the loops of expressions stand.
use Rattle.std.proofs.Common.{◌≡◌, ℕ, zero, suc, ◌+◌, ◌-◌, ◌<◌, ◌≤◌, List, length, drop, refl, arith, false}
use Rattle.pst_token.specs.declared.token.Token.{Token}
use Rattle.pst_ast.specs.declared.leaf.Name.{Name}
use Rattle.pst_ast.specs.ExpressionTree.{ExprTree, MaybeIndex, PartTree, MakePart, NextPartRow, NoNextPartRow, RangeTree, RangeSingle, RangeBetween, NextRangeRow, NoNextRangeRow}
use Rattle.pst_ast.specs.ExpressionOperators.{operators_expr, operators_part, operators_next_part_row, operators_range, operators_next_range_row}
use Rattle.pst_token.specs.declared.kind.Kind.TheVariants as kind
use Rattle.pst_ast.specs.Limits.{is_over}
use Rattle.pst_ast.specs.Limits
use Rattle.pst_reading.specs.Kinds.{is_mark, next_is}
use Rattle.pst_reading.specs.Parser.{Done, Outcome, Took, Refused, TooDeep, run, next, name_by, mark_by, if_mark, ◌>>=◌}
use Rattle.pst_reading.specs.Gives.{SettlesFrom, FailsFrom}
use Rattle.pst_ast.specs.declared.fault.SyntaxFault.{SyntaxFault}
use Rattle.pst_ast.specs.declared.fault.SyntaxFault.TheVariants as the_fault
use Rattle.pst_reading.proofs.Giving.{settles_both, fails_first, settles_choice}
use Rattle.pst_reading.proofs.Looping.{Steps, Looping}
use Rattle.pst_parse_operator.specs.Reading.{operation_of, level_by, ranges_by, parts_of, more_ranges_of, expr_at}
use Rattle.pst_parse_operator.specs.Families.{unary_within, level_family, range_family, index_family}

-- a whole expression within another part, behind at least one token of it
pub expr_nested : (tokens : List Token) (start at d b : ℕ) (o : Outcome ExprTree) → start < at → at ≤ length tokens → SettlesFrom (level_family 10 d b) tokens at at o → SettlesFrom (λ size prefixes. expr_at size d b) tokens start at o
unfolding expr_at
expr_nested tokens start at d b o lt le h zero prefixes m n = absurd (omega (arith, m, lt, le))
expr_nested tokens start at d b o lt le h (suc size) prefixes m n = h size size (omega (arith, m, lt)) (omega (arith, m, lt))

abbrev pub level_steps : ℕ → ℕ → ℕ → Steps ExprTree
level_steps above depth before size prefixes = operation_of (level_by (unary_within size) (ranges_by (expr_at size) size) size above) (ranges_by (expr_at size) size) (9 - above) depth before

pub record LevelLoop (tokens : List Token) (at above depth before : ℕ) (left : ExprTree) (place count : ℕ) : Type 0 where
  pub init : ExprTree
  pub from : ℕ
  pub first : SettlesFrom (level_family above depth before) tokens at at (Took init (drop from tokens))
  pub loop : Looping (level_steps above depth before) tokens at from init place left
  pub after : at < from
  pub reached : from ≤ place
  pub inside : place ≤ length tokens
  pub counted : count ≡ before + operators_expr left
  pub within : count ≤ 256

abbrev pub range_steps : ℕ → ℕ → Steps NextRangeRow
range_steps depth before size prefixes = more_ranges_of (expr_at size) depth before

pub record RangesLoop (tokens : List Token) (at depth before : ℕ) (first : RangeTree) (row : NextRangeRow) (place count : ℕ) : Type 0 where
  pub from : ℕ
  pub head : SettlesFrom (range_family depth before) tokens (at - 1) at (Took first (drop from tokens))
  pub loop : Looping (range_steps depth (before + operators_range first)) tokens (at - 1) from NoNextRangeRow place row
  pub after : at < from
  pub reached : from ≤ place
  pub inside : place ≤ length tokens
  pub counted : count ≡ (before + operators_range first) + operators_next_range_row row
  pub within : count ≤ 256

abbrev pub part_steps : ℕ → ℕ → Steps NextPartRow
part_steps depth before size prefixes = parts_of (expr_at size) depth before

pub record PathLoop (tokens : List Token) (at depth before : ℕ) (part : PartTree) (row : NextPartRow) (place count : ℕ) : Type 0 where
  pub name : Name
  pub index : MaybeIndex
  pub from : ℕ
  pub part_is : part ≡ MakePart name index
  pub name_given : run is_over (name_by (Limits.counted depth before)) (drop at tokens) ≡ Took name (drop (at + 1) tokens)
  pub no_colons : next_is (is_mark kind.ColonColon) (next (drop (at + 1) tokens)) ≡ false
  pub index_given : SettlesFrom (index_family depth before) tokens at (at + 1) (Took index (drop from tokens))
  pub loop : Looping (part_steps depth (before + operators_part part)) tokens at from NoNextPartRow place row
  pub after : at < from
  pub reached : from ≤ place
  pub inside : place ≤ length tokens
  pub counted : count ≡ (before + operators_part part) + operators_next_part_row row
  pub within : count ≤ 256

-- ---- what the rules give, from what their parts give

module _ (tokens : List Token) (start at d b : ℕ) (lt : start < at) (le : at ≤ length tokens) where
  pub range_low_fails : (e : SyntaxFault) → FailsFrom (level_family 10 d b) tokens at at e → FailsFrom (range_family d b) tokens start at e
  range_low_fails e h = fails_first tokens start (λ m n. expr_at m d b) (λ m n low. if_mark kind.DotDot (do
    dots ← mark_by kind.DotDot (Limits.counted d (b + operators_expr low))
    high ← expr_at m d (b + operators_expr low)
    Done (RangeBetween low dots high)) (Done (RangeSingle low))) at e (nested_fault e h)
    where
      nested_fault : (f : SyntaxFault) → FailsFrom (level_family 10 d b) tokens at at f → FailsFrom (λ m n. expr_at m d b) tokens start at f
      nested_fault (the_fault.At k) g = (expr_nested tokens start at d b (Refused (drop k tokens)) lt le g.0, g.1, g.2)
      nested_fault (the_fault.Deep k) g = (expr_nested tokens start at d b (TooDeep (drop k tokens)) lt le g.0, g.1, g.2)
      nested_fault the_fault.NoMemory g = tt

  pub single_given : (low : ExprTree) (after : ℕ) → next_is (is_mark kind.DotDot) (next (drop after tokens)) ≡ false → SettlesFrom (level_family 10 d b) tokens at at (Took low (drop after tokens)) → SettlesFrom (range_family d b) tokens start at (Took (RangeSingle low) (drop after tokens))
  single_given low after absent h = settles_both tokens start (λ m n. expr_at m d b) (λ m n low. if_mark kind.DotDot (do
    dots ← mark_by kind.DotDot (Limits.counted d (b + operators_expr low))
    high ← expr_at m d (b + operators_expr low)
    Done (RangeBetween low dots high)) (Done (RangeSingle low))) at after low (Took (RangeSingle low) (drop after tokens)) (expr_nested tokens start at d b (Took low (drop after tokens)) lt le h)
      (settles_choice tokens start kind.DotDot (λ m n. mark_by kind.DotDot (Limits.counted d (b + operators_expr low)) >>= λ dots. expr_at m d (b + operators_expr low) >>= λ high. Done (RangeBetween low dots high)) (λ m n. Done (RangeSingle low)) after (Took (RangeSingle low) (drop after tokens)) false absent (λ m n x y. refl))
