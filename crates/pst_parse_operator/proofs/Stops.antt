-- What may follow an expression so that it ends there.
use Rattle.std.proofs.Common.{◌≡◌, ℕ, suc, ◌≤◌, false, ◌==◌, Some, Option, None, refl, arith}
use Rattle.std.proofs.lemmas.Bool.{ne_eqb, and_left, and_right}
use Rattle.pst_base.specs.declared.position.Place.{Place}
use Rattle.pst_token.specs.declared.kind.Kind.{Kind}
use Rattle.pst_token.specs.declared.kind.Kind.TheVariants as kind
use Rattle.pst_token.specs.declared.token.Token.{Token}
use Rattle.pst_ast.specs.declared.leaf.Operator.{Operator}
use Rattle.pst_ast.specs.declared.leaf.Operator.TheVariants as the_operator
use Rattle.pst_ast.specs.Marks.{mark, operator_kind}
use Rattle.pst_ast.specs.ExpressionTree.{ExprTree, ExprUnary, ExprBinary, ExprIn, UnaryTree, UnaryPrefix, UnaryPrimary, PrimaryTree, PrimaryPath, PathTree, PathDotted, PathItem, PathLongItem, MakePart, MakeNextPart, NextPartRow, NoNextPartRow, MoreNextPartRow, MaybeIndex, NoIndex, SomeIndex}
use Rattle.pst_ast.specs.ExpressionProper.{level, level_of, IsProperExpr}
use Rattle.pst_reading.specs.Kinds.{is_mark, next_is}
use Rattle.pst_parse_operator.specs.Operators.{operator_of_kind, is_bare, operator_of, is_in}
use Rattle.pst_parse_operator.proofs.Tokens.{kind_is_so}

abbrev pub IsNo : Kind → Option Token → Type 0
IsNo k next = next_is (is_mark k) next ≡ false

abbrev pub StopsIndex : MaybeIndex → Option Token → Type 0
StopsIndex NoIndex next = IsNo kind.LeftBracket next
StopsIndex (SomeIndex index) next = Unit {0}

-- the index is of the name in front of the row
abbrev pub StopsRow : MaybeIndex → NextPartRow → Option Token → Type 0
StopsRow index NoNextPartRow next = StopsIndex index next
StopsRow index (MoreNextPartRow (MakeNextPart dot (MakePart name more)) tail) next = StopsRow more tail next

-- only behind a single name may `::` stand
abbrev pub StopsColons : MaybeIndex → NextPartRow → Option Token → Type 0
StopsColons NoIndex NoNextPartRow next = IsNo kind.ColonColon next
StopsColons _ _ next = Unit {0}

abbrev pub StopsPath : PathTree → Option Token → Type 0
StopsPath (PathDotted (MakePart name index) rest) next = StopsRow index rest next × IsNo kind.Dot next × StopsColons index rest next
StopsPath (PathItem first colons second) next = IsNo kind.ColonColon next
StopsPath (PathLongItem first colons second more_colons third) next = Unit {0}

abbrev pub StopsPrimary : PrimaryTree → Option Token → Type 0
StopsPrimary (PrimaryPath path) next = StopsPath path next
StopsPrimary _ next = Unit {0}

abbrev pub StopsUnary : UnaryTree → Option Token → Type 0
StopsUnary (UnaryPrefix operator place operand) next = StopsUnary operand next
StopsUnary (UnaryPrimary primary) next = StopsPrimary primary next

-- no operator of a level
abbrev pub IsNoOperator : ℕ → Option Token → Type 0
IsNoOperator l next = (operator_of l next ≡ None) × (is_in l next ≡ false)

-- no operator of the levels from low to high
abbrev pub AreNoOperators : ℕ → ℕ → Option Token → Type 0
AreNoOperators low high next = (l : ℕ) → low ≤ l → l ≤ high → IsNoOperator l next

-- neither more of the last part nor an operator of level k or above that may stand there
abbrev pub Stops : ℕ → ExprTree → Option Token → Type 0
Stops k (ExprUnary unary) next = StopsUnary unary next × AreNoOperators k 9 next
Stops k (ExprBinary left operator place right) next = Stops (suc (level_of operator)) right next × AreNoOperators k (level_of operator) next
Stops k (ExprIn left in_place left_bracket ranges right_bracket) next = AreNoOperators k 6 next

-- at higher levels less goes on
pub stops_above : (e : ExprTree) (j k : ℕ) (next : Option Token) → j ≤ k → Stops j e next → Stops k e next
stops_above (ExprUnary u) j k next le s = (s.0, λ l low high. s.1 l (omega (arith, low, le)) high)
stops_above (ExprBinary left o p right) j k next le s = (s.0, λ l low high. s.1 l (omega (arith, low, le)) high)
stops_above (ExprIn left p l rs r) j k next le s = λ i low high. s i (omega (arith, low, le)) high

pub own_stops : (e : ExprTree) (k : ℕ) (next : Option Token) → k ≤ level e → k ≤ 9 → Stops k e next → IsNoOperator k next
own_stops (ExprUnary u) k next le lt s = s.1 k (omega arith) lt
own_stops (ExprBinary left o p right) k next le lt s = s.1 k (omega arith) le
own_stops (ExprIn left p l rs r) k next le lt s = s k (omega arith) le

-- a token that goes on with nothing but what binds less tightly than x
pub record Separates (x : ℕ) (next : Option Token) : Type 0 where
  pub no_bracket : IsNo kind.LeftBracket next
  pub no_dot : IsNo kind.Dot next
  pub no_colons : IsNo kind.ColonColon next
  pub loose : (l : ℕ) → x ≤ l → IsNoOperator l next

module _ (x : ℕ) (next : Option Token) (w : Separates x next) where
  row_separated : (i : MaybeIndex) (rest : NextPartRow) → StopsRow i rest next
  row_separated NoIndex NoNextPartRow = w.no_bracket
  row_separated (SomeIndex i) NoNextPartRow = tt
  row_separated i (MoreNextPartRow (MakeNextPart dot (MakePart name more)) tail) = row_separated more tail

  colons_separated : (i : MaybeIndex) (rest : NextPartRow) → StopsColons i rest next
  colons_separated NoIndex NoNextPartRow = w.no_colons
  colons_separated NoIndex (MoreNextPartRow head tail) = tt
  colons_separated (SomeIndex i) rest = tt

  path_separated : (p : PathTree) → StopsPath p next
  path_separated (PathDotted (MakePart name i) rest) = (row_separated i rest, w.no_dot, colons_separated i rest)
  path_separated (PathItem a c b) = w.no_colons
  path_separated (PathLongItem a c b d e) = tt

  primary_separated : (p : PrimaryTree) → StopsPrimary p next
  primary_separated (PrimaryPath p) = path_separated p
  primary_separated _ = tt

  unary_separated : (u : UnaryTree) → StopsUnary u next
  unary_separated (UnaryPrefix o p u) = unary_separated u
  unary_separated (UnaryPrimary p) = primary_separated p

  pub separated : (e : ExprTree) → IsProperExpr e → (j : ℕ) → x ≤ suc (level e) → x ≤ j → Stops j e next
  separated (ExprUnary u) proper j le low = (unary_separated u, λ l from to. w.loose l (omega (arith, low, from)))
  separated (ExprBinary left o p right) proper j le low = (separated right proper.1 (suc (level_of o)) (omega (arith, le, proper.3)) (omega (arith, le)), λ l from to. w.loose l (omega (arith, low, from)))
  separated (ExprIn left p l rs r) proper j le low = λ i from to. w.loose i (omega (arith, low, from))

-- an operator is none of these marks
pub record IsPlain (t : Token) : Type 0 where
  pub no_in : is_mark kind.In t ≡ false
  pub no_bracket : is_mark kind.LeftBracket t ≡ false
  pub no_dot : is_mark kind.Dot t ≡ false
  pub no_colons : is_mark kind.ColonColon t ≡ false

plain : (o : Operator) (place : Place) → IsPlain (mark (operator_kind o) place)
unfolding is_mark
plain the_operator.Multiply place = record { no_in = refl; no_bracket = refl; no_dot = refl; no_colons = refl }
plain the_operator.Divide place = record { no_in = refl; no_bracket = refl; no_dot = refl; no_colons = refl }
plain the_operator.Remainder place = record { no_in = refl; no_bracket = refl; no_dot = refl; no_colons = refl }
plain the_operator.Add place = record { no_in = refl; no_bracket = refl; no_dot = refl; no_colons = refl }
plain the_operator.Subtract place = record { no_in = refl; no_bracket = refl; no_dot = refl; no_colons = refl }
plain the_operator.ShiftLeft place = record { no_in = refl; no_bracket = refl; no_dot = refl; no_colons = refl }
plain the_operator.ShiftRight place = record { no_in = refl; no_bracket = refl; no_dot = refl; no_colons = refl }
plain the_operator.Less place = record { no_in = refl; no_bracket = refl; no_dot = refl; no_colons = refl }
plain the_operator.LessEqual place = record { no_in = refl; no_bracket = refl; no_dot = refl; no_colons = refl }
plain the_operator.Greater place = record { no_in = refl; no_bracket = refl; no_dot = refl; no_colons = refl }
plain the_operator.GreaterEqual place = record { no_in = refl; no_bracket = refl; no_dot = refl; no_colons = refl }
plain the_operator.Equal place = record { no_in = refl; no_bracket = refl; no_dot = refl; no_colons = refl }
plain the_operator.NotEqual place = record { no_in = refl; no_bracket = refl; no_dot = refl; no_colons = refl }
plain the_operator.BitAnd place = record { no_in = refl; no_bracket = refl; no_dot = refl; no_colons = refl }
plain the_operator.BitXor place = record { no_in = refl; no_bracket = refl; no_dot = refl; no_colons = refl }
plain the_operator.BitOr place = record { no_in = refl; no_bracket = refl; no_dot = refl; no_colons = refl }
plain the_operator.And place = record { no_in = refl; no_bracket = refl; no_dot = refl; no_colons = refl }
plain the_operator.Or place = record { no_in = refl; no_bracket = refl; no_dot = refl; no_colons = refl }

looser : (o : Operator) (place : Place) (l : ℕ) → suc (level_of o) ≤ l → operator_of l (Some (mark (operator_kind o) place)) ≡ None
unfolding operator_of is_bare
looser o place l le = rw (kind_is_so o, ne_eqb (level_of o) l (λ e. absurd (omega (arith, le, e)))) refl

not_in : (t : Token) (l : ℕ) → is_mark kind.In t ≡ false → is_in l (Some t) ≡ false
unfolding is_in
not_in t l e = and_right (l == 6) (is_mark kind.In t) e

-- an operator separates what binds more tightly
pub operator_separates : (o : Operator) (place : Place) → Separates (suc (level_of o)) (Some (mark (operator_kind o) place))
operator_separates o place =
    let p = plain o place in
    record { no_bracket = p.no_bracket; no_dot = p.no_dot; no_colons = p.no_colons; loose = λ l le. (looser o place l le, not_in (mark (operator_kind o) place) l p.no_in) }

-- `in` as well
no_in_above : (l : ℕ) (next : Option Token) → 7 ≤ l → is_in l next ≡ false
unfolding is_in
no_in_above l next le = and_left (l == 6) (next_is (is_mark kind.In) next) (ne_eqb l 6 (λ e. absurd (omega (arith, le, e))))

pub no_operator_in : (l : ℕ) (place : Place) → operator_of l (Some (mark kind.In place)) ≡ None
unfolding operator_of is_bare
no_operator_in l place = refl

plain_in : (place : Place) → (is_mark kind.LeftBracket (mark kind.In place) ≡ false) × (is_mark kind.Dot (mark kind.In place) ≡ false) × (is_mark kind.ColonColon (mark kind.In place) ≡ false)
unfolding is_mark
plain_in place = (refl, refl, refl)

pub in_separates : (place : Place) → Separates 7 (Some (mark kind.In place))
in_separates place =
    let p = plain_in place in
    record { no_bracket = p.0; no_dot = p.1; no_colons = p.2; loose = λ l le. (no_operator_in l place, no_in_above l (Some (mark kind.In place)) le) }

-- a mark that closes a part, or stands between parts, separates all
pub closes : (k : Kind) (place : Place) → operator_of_kind k ≡ None → is_mark kind.In (mark k place) ≡ false → is_mark kind.LeftBracket (mark k place) ≡ false → is_mark kind.Dot (mark k place) ≡ false → is_mark kind.ColonColon (mark k place) ≡ false → Separates 0 (Some (mark k place))
unfolding operator_of is_bare
closes k place none no_in no_bracket no_dot no_colons = record { no_bracket = no_bracket; no_dot = no_dot; no_colons = no_colons; loose = λ l le. (rw none refl, not_in (mark k place) l no_in) }

pub right_bracket_closes : (place : Place) → Separates 0 (Some (mark kind.RightBracket place))
unfolding is_mark
right_bracket_closes place = closes kind.RightBracket place refl refl refl refl refl

pub right_parenthesis_closes : (place : Place) → Separates 0 (Some (mark kind.RightParenthesis place))
unfolding is_mark
right_parenthesis_closes place = closes kind.RightParenthesis place refl refl refl refl refl

pub comma_closes : (place : Place) → Separates 0 (Some (mark kind.Comma place))
unfolding is_mark
comma_closes place = closes kind.Comma place refl refl refl refl refl

pub dots_close : (place : Place) → Separates 0 (Some (mark kind.DotDot place))
unfolding is_mark
dots_close place = closes kind.DotDot place refl refl refl refl refl

pub nothing_closes : Separates 0 None
unfolding operator_of is_in
nothing_closes = record { no_bracket = refl; no_dot = refl; no_colons = refl; loose = λ l le. (refl, and_right (l == 6) false refl) }

pub semicolon_closes : (place : Place) → Separates 0 (Some (mark kind.Semicolon place))
unfolding is_mark
semicolon_closes place = closes kind.Semicolon place refl refl refl refl refl

pub arrow_closes : (place : Place) → Separates 0 (Some (mark kind.Arrow place))
unfolding is_mark
arrow_closes place = closes kind.Arrow place refl refl refl refl refl

pub right_brace_closes : (place : Place) → Separates 0 (Some (mark kind.RightBrace place))
unfolding is_mark
right_brace_closes place = closes kind.RightBrace place refl refl refl refl refl

pub colon_closes : (place : Place) → Separates 0 (Some (mark kind.Colon place))
unfolding is_mark
colon_closes place = closes kind.Colon place refl refl refl refl refl
