-- Which tokens an expression begins with, and what stands behind a name that does.
use Rattle.std.proofs.Common.{◌≡◌, ℕ, zero, suc, ◌-◌, Bool, true, false, ◌&&◌, if◌then◌else◌, List, [], ◌∷◌, ◌++◌, Some, Option, None, refl, sym, ap, subst, ◌∙◌, append_assoc}
use Rattle.pst_base.specs.declared.position.Place.{Place}
use Rattle.pst_token.specs.declared.kind.Kind.{Kind}
use Rattle.pst_token.specs.declared.kind.Kind.TheVariants as kind
use Rattle.pst_token.specs.declared.token.Token.{Token}
use Rattle.pst_ast.specs.declared.leaf.Name.{Name}
use Rattle.pst_ast.specs.declared.leaf.Number.{Number}
use Rattle.pst_ast.specs.declared.leaf.Operator.{Operator}
use Rattle.pst_ast.specs.declared.leaf.Operator.TheVariants as the_operator
use Rattle.pst_ast.specs.declared.leaf.PrefixOperator.{PrefixOperator}
use Rattle.pst_ast.specs.declared.leaf.PrefixOperator.TheVariants as the_prefix_operator
use Rattle.pst_ast.specs.Limits.{Count, counted}
use Rattle.pst_ast.specs.Marks.{mark, name_token, number_token, operator_kind, prefix_operator_kind}
use Rattle.pst_ast.specs.ExpressionTree.{ExprTree, ExprUnary, ExprBinary, ExprIn, UnaryTree, UnaryPrefix, UnaryPrimary, PrimaryTree, PrimaryNumber, PrimaryTrue, PrimaryFalse, PrimaryPath, PrimaryGroup, PathTree, PathDotted, PathItem, PathLongItem, MakePart, MakeNextPart, MakeIndex, NoNextPartRow, MoreNextPartRow, NoIndex, SomeIndex, RangesTree}
use Rattle.pst_ast.specs.ExpressionSpelling.{spell_expr, spell_unary, spell_primary, spell_path, spell_part, spell_next_part_row, spell_ranges}
use Rattle.pst_reading.specs.Kinds.{is_mark, is_name, is_number, next_is}
use Rattle.pst_reading.specs.Parser.{Done, followed_by, next, repeat_by}
use Rattle.pst_reading.specs.Peeking.{name_then}
use Rattle.pst_reading.proofs.Tokens.{name_is}
use Rattle.pst_reading.proofs.Peeking.{takes, takes_followed}
use Rattle.pst_parse_operator.specs.Operators.{prefix_of, is_bare}
use Rattle.pst_parse_operator.specs.Reading.{Parsers, operation_of, level_by, primary_by, prefix_by, unary_by, ranges_by, expr_at}
use Rattle.pst_parse_expr.specs.Constraints.{outermost_at}
use Rattle.pst_parse_operator.proofs.Stops.{IsNo}

-- ---- an expression takes a name

none_both : (b : Bool) (o : Option PrefixOperator) → (if b then o else o) ≡ o
none_both true o = refl
none_both false o = refl

name_no_prefix : (n : Name) → prefix_of (Some (name_token n)) ≡ None
unfolding prefix_of is_bare
name_no_prefix n = none_both _ None

module _ (X : Parsers ExprTree) (turns d b : ℕ) (n : Name) where
  primary_takes : takes (primary_by X turns d b) (name_token n) ≡ Some (counted d b)
  unfolding is_mark is_name is_number
  primary_takes = refl

  unary_takes : (prefixes : ℕ) → takes (unary_by (primary_by X turns) (suc prefixes) d b) (name_token n) ≡ Some (counted d b)
  unary_takes prefixes = subst (λ (o : Option PrefixOperator). takes (prefix_by (primary_by X turns) (unary_by (primary_by X turns) prefixes) d b o) (name_token n) ≡ Some (counted d b)) (sym (name_no_prefix n)) (takes_followed (primary_by X turns d b) (λ p. Done (UnaryPrimary p)) (name_token n) (counted d b) primary_takes)

  level_takes : (ranges : Parsers RangesTree) (prefixes above : ℕ) → takes (level_by (unary_by (primary_by X turns) (suc prefixes)) ranges turns above d b) (name_token n) ≡ Some (counted d b)
  level_takes ranges prefixes zero = takes_followed (unary_by (primary_by X turns) (suc prefixes) d b) (λ u. Done (ExprUnary u)) (name_token n) (counted d b) (unary_takes prefixes)
  level_takes ranges prefixes (suc above) = takes_followed (level_by (unary_by (primary_by X turns) (suc prefixes)) ranges turns above d b) (repeat_by (operation_of (level_by (unary_by (primary_by X turns) (suc prefixes)) ranges turns above) ranges (9 - above) d b) turns) (name_token n) (counted d b) (level_takes ranges prefixes above)

pub expr_takes : (size d : ℕ) (t : Token) → is_name t ≡ true → takes (outermost_at (suc size) d) t ≡ Some (counted d 0)
unfolding expr_at
expr_takes size d t e = subst (λ (u : Token). takes (level_by (unary_by (primary_by (expr_at size) size) (suc size)) (ranges_by (expr_at size) size) size 10 d 0) u ≡ Some (counted d 0)) (sym (name_is t e)) (level_takes (expr_at size) size d 0 (record { id = t.name; place = t.place }) (ranges_by (expr_at size) size) size 10)

-- ---- a mark that never stands behind a name in an expression

pub record Outside (k : Kind) : Type 0 where
  pub no_operator : (o : Operator) (p : Place) → is_mark k (mark (operator_kind o) p) ≡ false
  pub no_in : (p : Place) → is_mark k (mark kind.In p) ≡ false
  pub no_bracket : (p : Place) → is_mark k (mark kind.LeftBracket p) ≡ false
  pub no_dot : (p : Place) → is_mark k (mark kind.Dot p) ≡ false
  pub no_colons : (p : Place) → is_mark k (mark kind.ColonColon p) ≡ false

no_colon_operator : (o : Operator) (p : Place) → is_mark kind.Colon (mark (operator_kind o) p) ≡ false
unfolding is_mark
no_colon_operator the_operator.Multiply p = refl
no_colon_operator the_operator.Divide p = refl
no_colon_operator the_operator.Remainder p = refl
no_colon_operator the_operator.Add p = refl
no_colon_operator the_operator.Subtract p = refl
no_colon_operator the_operator.ShiftLeft p = refl
no_colon_operator the_operator.ShiftRight p = refl
no_colon_operator the_operator.Less p = refl
no_colon_operator the_operator.LessEqual p = refl
no_colon_operator the_operator.Greater p = refl
no_colon_operator the_operator.GreaterEqual p = refl
no_colon_operator the_operator.Equal p = refl
no_colon_operator the_operator.NotEqual p = refl
no_colon_operator the_operator.BitAnd p = refl
no_colon_operator the_operator.BitXor p = refl
no_colon_operator the_operator.BitOr p = refl
no_colon_operator the_operator.And p = refl
no_colon_operator the_operator.Or p = refl

no_parenthesis_operator : (o : Operator) (p : Place) → is_mark kind.LeftParenthesis (mark (operator_kind o) p) ≡ false
unfolding is_mark
no_parenthesis_operator the_operator.Multiply p = refl
no_parenthesis_operator the_operator.Divide p = refl
no_parenthesis_operator the_operator.Remainder p = refl
no_parenthesis_operator the_operator.Add p = refl
no_parenthesis_operator the_operator.Subtract p = refl
no_parenthesis_operator the_operator.ShiftLeft p = refl
no_parenthesis_operator the_operator.ShiftRight p = refl
no_parenthesis_operator the_operator.Less p = refl
no_parenthesis_operator the_operator.LessEqual p = refl
no_parenthesis_operator the_operator.Greater p = refl
no_parenthesis_operator the_operator.GreaterEqual p = refl
no_parenthesis_operator the_operator.Equal p = refl
no_parenthesis_operator the_operator.NotEqual p = refl
no_parenthesis_operator the_operator.BitAnd p = refl
no_parenthesis_operator the_operator.BitXor p = refl
no_parenthesis_operator the_operator.BitOr p = refl
no_parenthesis_operator the_operator.And p = refl
no_parenthesis_operator the_operator.Or p = refl

pub colon_outside : Outside kind.Colon
unfolding is_mark
colon_outside = record { no_operator = no_colon_operator; no_in = λ p. refl; no_bracket = λ p. refl; no_dot = λ p. refl; no_colons = λ p. refl }

pub parenthesis_outside : Outside kind.LeftParenthesis
unfolding is_mark
parenthesis_outside = record { no_operator = no_parenthesis_operator; no_in = λ p. refl; no_bracket = λ p. refl; no_dot = λ p. refl; no_colons = λ p. refl }

-- a token that is no name
no_name : (k : Kind) (t : Token) (ts : List Token) → is_name t ≡ false → name_then k (t ∷ ts) ≡ false
no_name k t ts e = ap (λ (b : Bool). b && next_is (is_mark k) (next ts)) e

-- a name, and a token behind it that isn't the mark
name_and : (k : Kind) (n : Name) (ts : List Token) → IsNo k (next ts) → name_then k (name_token n ∷ ts) ≡ false
unfolding is_name
name_and k n ts e = e

number_no_name : (n : Number) → is_name (number_token n) ≡ false
unfolding is_name
number_no_name n = refl

true_no_name : (p : Place) → is_name (mark kind.True p) ≡ false
unfolding is_name
true_no_name p = refl

false_no_name : (p : Place) → is_name (mark kind.False p) ≡ false
unfolding is_name
false_no_name p = refl

group_no_name : (p : Place) → is_name (mark kind.LeftParenthesis p) ≡ false
unfolding is_name
group_no_name p = refl

prefix_no_name : (o : PrefixOperator) (p : Place) → is_name (mark (prefix_operator_kind o) p) ≡ false
unfolding is_name
prefix_no_name the_prefix_operator.Negate p = refl
prefix_no_name the_prefix_operator.Not p = refl
prefix_no_name the_prefix_operator.Complement p = refl

module _ (k : Kind) (w : Outside k) where
  path_apart : (p : PathTree) (rest : List Token) → IsNo k (next rest) → name_then k (spell_path p ++ rest) ≡ false
  path_apart (PathDotted (MakePart n NoIndex) NoNextPartRow) rest e = name_and k n rest e
  path_apart (PathDotted (MakePart n NoIndex) (MoreNextPartRow (MakeNextPart dot p) tail)) rest e = name_and k n (mark kind.Dot dot ∷ ((spell_part p ++ spell_next_part_row tail) ++ rest)) (w.no_dot dot)
  path_apart (PathDotted (MakePart n (SomeIndex (MakeIndex l x r))) row) rest e = name_and k n (mark kind.LeftBracket l ∷ (((spell_expr x ++ mark kind.RightBracket r ∷ []) ++ spell_next_part_row row) ++ rest)) (w.no_bracket l)
  path_apart (PathItem a c b) rest e = name_and k a (mark kind.ColonColon c ∷ name_token b ∷ rest) (w.no_colons c)
  path_apart (PathLongItem a c b m d) rest e = name_and k a (mark kind.ColonColon c ∷ name_token b ∷ mark kind.ColonColon m ∷ name_token d ∷ rest) (w.no_colons c)

  primary_apart : (p : PrimaryTree) (rest : List Token) → IsNo k (next rest) → name_then k (spell_primary p ++ rest) ≡ false
  primary_apart (PrimaryNumber n) rest e = no_name k (number_token n) rest (number_no_name n)
  primary_apart (PrimaryTrue p) rest e = no_name k (mark kind.True p) rest (true_no_name p)
  primary_apart (PrimaryFalse p) rest e = no_name k (mark kind.False p) rest (false_no_name p)
  primary_apart (PrimaryPath p) rest e = path_apart p rest e
  primary_apart (PrimaryGroup l x r) rest e = no_name k (mark kind.LeftParenthesis l) _ (group_no_name l)

  unary_apart : (u : UnaryTree) (rest : List Token) → IsNo k (next rest) → name_then k (spell_unary u ++ rest) ≡ false
  unary_apart (UnaryPrefix o p u) rest e = no_name k (mark (prefix_operator_kind o) p) _ (prefix_no_name o p)
  unary_apart (UnaryPrimary p) rest e = primary_apart p rest e

  pub expr_apart : (x : ExprTree) (rest : List Token) → IsNo k (next rest) → name_then k (spell_expr x ++ rest) ≡ false
  expr_apart (ExprUnary u) rest e = unary_apart u rest e
  expr_apart (ExprBinary l o p r) rest e = subst (λ (ts : List Token). name_then k ts ≡ false) (sym (append_assoc (spell_expr l) (mark (operator_kind o) p ∷ spell_expr r) rest)) (expr_apart l (mark (operator_kind o) p ∷ (spell_expr r ++ rest)) (w.no_operator o p))
  expr_apart (ExprIn l p b rs c) rest e = subst (λ (ts : List Token). name_then k ts ≡ false) (sym (append_assoc (spell_expr l) (mark kind.In p ∷ mark kind.LeftBracket b ∷ (spell_ranges rs ++ mark kind.RightBracket c ∷ [])) rest)) (expr_apart l (mark kind.In p ∷ mark kind.LeftBracket b ∷ ((spell_ranges rs ++ mark kind.RightBracket c ∷ []) ++ rest)) (w.no_in p))
