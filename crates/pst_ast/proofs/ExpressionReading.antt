-- Reading an expression from its tokens, from left to right. E reads the expressions in it; m bounds how many operators or parts stand in a row.
use Rattle.std.proofs.Common.{ℕ, zero, suc, ◌+◌, List, [], ◌∷◌, Option, Some, None, Bool, true, false}
use Rattle.std.specs.Prelude.{if◌then◌else◌, ltb}
use Rattle.pst_base.specs.declared.position.Place.{Place}
use Rattle.pst_token.specs.declared.token.Token.{Token}
use Rattle.pst_token.specs.declared.kind.Kind.{Kind}
use Rattle.pst_token.specs.declared.kind.Kind.TheVariants as kind
use Rattle.pst_ast.specs.declared.leaf.Name.{Name}
use Rattle.pst_ast.specs.declared.leaf.Operator.{Operator}
use Rattle.pst_ast.specs.declared.leaf.PrefixOperator.{PrefixOperator}
use Rattle.pst_ast.specs.declared.leaf.Operator.TheVariants as the_operator
use Rattle.pst_ast.specs.declared.leaf.PrefixOperator.TheVariants as the_prefix_operator
use Rattle.pst_ast.specs.ExpressionTree.{ExprTree, ExprUnary, ExprBinary, ExprIn, UnaryTree, UnaryPrefix, UnaryPrimary, PrimaryTree, PrimaryNumber, PrimaryTrue, PrimaryFalse, PrimaryPath, PrimaryGroup, PathTree, PathDotted, PathItem, PathLongItem, PartTree, MakePart, NextPartTree, MakeNextPart, IndexTree, MakeIndex, RangesTree, MakeRanges, NextRangeTree, MakeNextRange, RangeTree, RangeSingle, RangeBetween, NextPartRow, NoNextPartRow, MoreNextPartRow, MaybeIndex, NoIndex, SomeIndex, NextRangeRow, NoNextRangeRow, MoreNextRangeRow}
use Rattle.pst_ast.specs.ExpressionProper.{level_of}
use Rattle.pst_ast.specs.Marks.{mark}
use Rattle.pst_ast.specs.Closing.{origin}

abbrev pub Read : Type 0 → Type 0
Read A = Option (A × List Token)

abbrev pub Reader : Type 0 → Type 0
Reader A = List Token → Read A

abbrev pub follow : {A B : Type 0} → Read A → (A → Reader B) → Read B
follow None f = None
follow (Some x) f = f x.0 x.1

-- the next token; past the end it is `End`
abbrev pub first : List Token → Token
first [] = mark kind.End origin
first (t ∷ ts) = t

abbrev pub others : List Token → List Token
others [] = []
others (t ∷ ts) = ts

abbrev pub first_kind : List Token → Kind
first_kind ts = (first ts).kind

abbrev pub first_place : List Token → Place
first_place ts = (first ts).place

abbrev pub first_name : List Token → Name
first_name ts = record { id = (first ts).name; place = (first ts).place }

abbrev pub is_dot : Kind → Bool
is_dot kind.Dot = true
is_dot _ = false

abbrev pub is_bracket : Kind → Bool
is_bracket kind.LeftBracket = true
is_bracket _ = false

abbrev pub is_colons : Kind → Bool
is_colons kind.ColonColon = true
is_colons _ = false

abbrev pub is_comma : Kind → Bool
is_comma kind.Comma = true
is_comma _ = false

abbrev pub is_dots : Kind → Bool
is_dots kind.DotDot = true
is_dots _ = false

abbrev pub is_in : Kind → Bool
is_in kind.In = true
is_in _ = false

abbrev pub operator_of : Kind → Option Operator
operator_of kind.Star = Some the_operator.Multiply
operator_of kind.Slash = Some the_operator.Divide
operator_of kind.Percent = Some the_operator.Remainder
operator_of kind.Plus = Some the_operator.Add
operator_of kind.Minus = Some the_operator.Subtract
operator_of kind.LessLess = Some the_operator.ShiftLeft
operator_of kind.GreaterGreater = Some the_operator.ShiftRight
operator_of kind.Less = Some the_operator.Less
operator_of kind.LessEqual = Some the_operator.LessEqual
operator_of kind.Greater = Some the_operator.Greater
operator_of kind.GreaterEqual = Some the_operator.GreaterEqual
operator_of kind.EqualEqual = Some the_operator.Equal
operator_of kind.NotEqual = Some the_operator.NotEqual
operator_of kind.And = Some the_operator.BitAnd
operator_of kind.Caret = Some the_operator.BitXor
operator_of kind.Or = Some the_operator.BitOr
operator_of kind.AndAnd = Some the_operator.And
operator_of kind.OrOr = Some the_operator.Or
operator_of _ = None

abbrev pub prefix_of : Kind → Option PrefixOperator
prefix_of kind.Minus = Some the_prefix_operator.Negate
prefix_of kind.Not = Some the_prefix_operator.Not
prefix_of kind.Tilde = Some the_prefix_operator.Complement
prefix_of _ = None

abbrev pub choose : {A B : Type 0} → Option A → (A → B) → B → B
choose None f otherwise = otherwise
choose (Some a) f otherwise = f a

-- an operator more on the right of an expression, where it groups
unfoldable pub extend : ExprTree → Operator → Place → UnaryTree → ExprTree
extend (ExprUnary u) o p x = ExprBinary (ExprUnary u) o p (ExprUnary x)
extend (ExprBinary l q s r) o p x = if ltb (level_of q) (level_of o) then ExprBinary l q s (extend r o p x) else ExprBinary (ExprBinary l q s r) o p (ExprUnary x)
extend (ExprIn l i b r c) o p x = ExprBinary (ExprIn l i b r c) o p (ExprUnary x)

-- ranges behind `in` more
unfoldable pub extend_in : ExprTree → Place → Place → RangesTree → Place → ExprTree
extend_in (ExprUnary u) i b r c = ExprIn (ExprUnary u) i b r c
extend_in (ExprBinary l q s e) i b r c = if ltb (level_of q) 6 then ExprBinary l q s (extend_in e i b r c) else ExprIn (ExprBinary l q s e) i b r c
extend_in (ExprIn l j d e f) i b r c = ExprIn (ExprIn l j d e f) i b r c

unfoldable pub read_part : Reader ExprTree → Reader PartTree
read_part E ts =
    if is_bracket (first_kind (others ts)) then follow (E (others (others ts))) (λ e rest. Some (MakePart (first_name ts) (SomeIndex (MakeIndex (first_place (others ts)) e (first_place rest))), others rest))
    else Some (MakePart (first_name ts) NoIndex, others ts)

unfoldable pub read_parts : Reader ExprTree → ℕ → Reader NextPartRow
read_parts E zero ts = Some (NoNextPartRow, ts)
read_parts E (suc m) ts =
    if is_dot (first_kind ts) then follow (read_part E (others ts)) (λ p rest. follow (read_parts E m rest) (λ row end. Some (MoreNextPartRow (MakeNextPart (first_place ts) p) row, end)))
    else Some (NoNextPartRow, ts)

unfoldable pub read_item : Reader PathTree
read_item ts =
    if is_colons (first_kind (others (others (others ts)))) then Some (PathLongItem (first_name ts) (first_place (others ts)) (first_name (others (others ts))) (first_place (others (others (others ts)))) (first_name (others (others (others (others ts))))), others (others (others (others (others ts)))))
    else Some (PathItem (first_name ts) (first_place (others ts)) (first_name (others (others ts))), others (others (others ts)))

unfoldable pub read_path : Reader ExprTree → ℕ → Reader PathTree
read_path E m ts = if is_colons (first_kind (others ts)) then read_item ts else follow (read_part E ts) (λ p rest. follow (read_parts E m rest) (λ row end. Some (PathDotted p row, end)))

abbrev pub primary_by : Reader ExprTree → ℕ → List Token → Kind → Read PrimaryTree
primary_by E m ts kind.Number = Some (PrimaryNumber (record { value = (first ts).number; place = first_place ts }), others ts)
primary_by E m ts kind.True = Some (PrimaryTrue (first_place ts), others ts)
primary_by E m ts kind.False = Some (PrimaryFalse (first_place ts), others ts)
primary_by E m ts kind.Name = follow (read_path E m ts) (λ p rest. Some (PrimaryPath p, rest))
primary_by E m ts kind.LeftParenthesis = follow (E (others ts)) (λ e rest. Some (PrimaryGroup (first_place ts) e (first_place rest), others rest))
primary_by E m ts _ = None

unfoldable pub read_unary : Reader ExprTree → ℕ → ℕ → Reader UnaryTree
read_unary E m zero ts = None
read_unary E m (suc k) ts = choose (prefix_of (first_kind ts)) (λ o. follow (read_unary E m k (others ts)) (λ u rest. Some (UnaryPrefix o (first_place ts) u, rest))) (follow (primary_by E m ts (first_kind ts)) (λ p rest. Some (UnaryPrimary p, rest)))

unfoldable pub read_range : Reader ExprTree → Reader RangeTree
read_range E ts = follow (E ts) (λ low rest. if is_dots (first_kind rest) then follow (E (others rest)) (λ high end. Some (RangeBetween low (first_place rest) high, end)) else Some (RangeSingle low, rest))

unfoldable pub read_range_row : Reader ExprTree → ℕ → Reader NextRangeRow
read_range_row E zero ts = Some (NoNextRangeRow, ts)
read_range_row E (suc m) ts =
    if is_comma (first_kind ts) then follow (read_range E (others ts)) (λ r rest. follow (read_range_row E m rest) (λ row end. Some (MoreNextRangeRow (MakeNextRange (first_place ts) r) row, end)))
    else Some (NoNextRangeRow, ts)

unfoldable pub read_ranges : Reader ExprTree → ℕ → Reader RangesTree
read_ranges E m ts = follow (read_range E ts) (λ r rest. follow (read_range_row E m rest) (λ row end. Some (MakeRanges r row, end)))

-- operators behind an expression, at most so many
unfoldable pub read_chain : Reader ExprTree → ℕ → ℕ → ExprTree → Reader ExprTree
read_chain E m zero left ts = Some (left, ts)
read_chain E m (suc k) left ts =
    choose (operator_of (first_kind ts))
    (λ o. follow (read_unary E m (suc m) (others ts)) (λ u rest. read_chain E m k (extend left o (first_place ts) u) rest))
    (
    if is_in (first_kind ts) then follow (read_ranges E m (others (others ts))) (λ r rest. read_chain E m k (extend_in left (first_place ts) (first_place (others ts)) r (first_place rest)) (others rest))
    else Some (left, ts)
    )

unfoldable pub read_expr : ℕ → Reader ExprTree
read_expr zero ts = None
read_expr (suc n) ts = follow (read_unary (read_expr n) (suc n) (suc (suc n)) ts) (λ u rest. read_chain (read_expr n) (suc n) (suc n) (ExprUnary u) rest)

-- how many brackets, operators and parts an expression has
abbrev mutual
  pub size_expr : ExprTree → ℕ
  size_expr (ExprUnary u) = size_unary u
  size_expr (ExprBinary l o p r) = suc (size_expr l + size_expr r)
  size_expr (ExprIn l i b r c) = suc (size_expr l + size_ranges r)

  pub size_unary : UnaryTree → ℕ
  size_unary (UnaryPrefix o p u) = suc (size_unary u)
  size_unary (UnaryPrimary p) = size_primary p

  pub size_primary : PrimaryTree → ℕ
  size_primary (PrimaryPath p) = size_path p
  size_primary (PrimaryGroup l e r) = suc (size_expr e)
  size_primary _ = 0

  pub size_path : PathTree → ℕ
  size_path (PathDotted f r) = size_part f + size_parts r
  size_path _ = 0

  pub size_part : PartTree → ℕ
  size_part (MakePart n i) = size_index i

  pub size_index : MaybeIndex → ℕ
  size_index NoIndex = 0
  size_index (SomeIndex i) = size_some_index i

  pub size_some_index : IndexTree → ℕ
  size_some_index (MakeIndex l e r) = suc (size_expr e)

  pub size_next_part : NextPartTree → ℕ
  size_next_part (MakeNextPart d p) = suc (size_part p)

  pub size_parts : NextPartRow → ℕ
  size_parts NoNextPartRow = 0
  size_parts (MoreNextPartRow h t) = size_next_part h + size_parts t

  pub size_ranges : RangesTree → ℕ
  size_ranges (MakeRanges f r) = size_range f + size_range_row r

  pub size_range : RangeTree → ℕ
  size_range (RangeSingle e) = size_expr e
  size_range (RangeBetween l d h) = size_expr l + size_expr h

  pub size_next_range : NextRangeTree → ℕ
  size_next_range (MakeNextRange c r) = suc (size_range r)

  pub size_range_row : NextRangeRow → ℕ
  size_range_row NoNextRangeRow = 0
  size_range_row (MoreNextRangeRow h t) = size_next_range h + size_range_row t
