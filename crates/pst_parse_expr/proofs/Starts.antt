-- What expressions and constraints begin with.
use Rattle.std.proofs.Common.{◌≡◌, Bool, true, false, ◌||◌, List, [], ◌∷◌, ◌++◌, Some, Option, None, refl, sym, ap, subst, ◌∙◌, append_assoc}
use Rattle.pst_base.specs.declared.position.Place.{Place}
use Rattle.pst_token.specs.declared.kind.Kind.{Kind}
use Rattle.pst_token.specs.declared.kind.Kind.TheVariants as kind
use Rattle.pst_token.specs.declared.token.Token.{Token}
use Rattle.pst_ast.specs.declared.leaf.Name.{Name}
use Rattle.pst_ast.specs.declared.leaf.Number.{Number}
use Rattle.pst_ast.specs.declared.leaf.PrefixOperator.{PrefixOperator}
use Rattle.pst_ast.specs.declared.leaf.PrefixOperator.TheVariants as the_prefix_operator
use Rattle.pst_ast.specs.Marks.{mark, name_token, number_token, operator_kind, prefix_operator_kind}
use Rattle.pst_ast.specs.ExpressionTree.{ExprTree, ExprUnary, ExprBinary, ExprIn, UnaryTree, UnaryPrefix, UnaryPrimary, PrimaryTree, PrimaryNumber, PrimaryTrue, PrimaryFalse, PrimaryPath, PrimaryGroup, PathDotted, PathItem, PathLongItem, MakePart}
use Rattle.pst_ast.specs.ExpressionSpelling.{spell_expr, spell_unary, spell_primary, spell_ranges}
use Rattle.pst_ast.specs.ConstraintTree.{ConstraintItemTree, ConstraintItemEmpty, ConstraintItemExpr, ConstraintItemImplies, ConstraintItemIf, ConstraintItemIfElse, ConstraintItemUnique, ConstraintItemForeach}
use Rattle.pst_ast.specs.ConstraintSpelling.{spell_constraint, spell_constraint_item}
use Rattle.pst_reading.specs.Kinds.{is_mark, is_name, is_number, next_is}
use Rattle.pst_reading.specs.Parser.{next}
use Rattle.pst_reading.proofs.Tokens.{mark_is}
use Rattle.pst_parse_operator.specs.Operators.{prefix_of, is_bare}
use Rattle.pst_parse_expr.specs.Constraints.{begins_expr}
use Rattle.pst_parse_operator.proofs.Stops.{IsNo}

or_true : (b : Bool) → (b || true) ≡ true
or_true true = refl
or_true false = refl

begins_number : (n : Number) → begins_expr (Some (number_token n)) ≡ true
unfolding begins_expr is_mark is_number is_name prefix_of is_bare
begins_number n = or_true _

begins_name : (n : Name) → begins_expr (Some (name_token n)) ≡ true
unfolding begins_expr is_mark is_number is_name prefix_of is_bare
begins_name n = or_true _

begins_true : (p : Place) → begins_expr (Some (mark kind.True p)) ≡ true
unfolding begins_expr is_mark is_number is_name prefix_of is_bare
begins_true p = refl

begins_false : (p : Place) → begins_expr (Some (mark kind.False p)) ≡ true
unfolding begins_expr is_mark is_number is_name prefix_of is_bare
begins_false p = refl

begins_group : (p : Place) → begins_expr (Some (mark kind.LeftParenthesis p)) ≡ true
unfolding begins_expr is_mark is_number is_name prefix_of is_bare
begins_group p = refl

begins_prefix : (o : PrefixOperator) (p : Place) → begins_expr (Some (mark (prefix_operator_kind o) p)) ≡ true
unfolding begins_expr is_mark is_number is_name prefix_of is_bare
begins_prefix the_prefix_operator.Negate p = refl
begins_prefix the_prefix_operator.Not p = refl
begins_prefix the_prefix_operator.Complement p = refl

starts_primary : (p : PrimaryTree) (rest : List Token) → begins_expr (next (spell_primary p ++ rest)) ≡ true
starts_primary (PrimaryNumber n) rest = begins_number n
starts_primary (PrimaryTrue p) rest = begins_true p
starts_primary (PrimaryFalse p) rest = begins_false p
starts_primary (PrimaryPath (PathDotted (MakePart name i) row)) rest = begins_name name
starts_primary (PrimaryPath (PathItem first c second)) rest = begins_name first
starts_primary (PrimaryPath (PathLongItem first c second m third)) rest = begins_name first
starts_primary (PrimaryGroup l e r) rest = begins_group l

starts_unary : (u : UnaryTree) (rest : List Token) → begins_expr (next (spell_unary u ++ rest)) ≡ true
starts_unary (UnaryPrefix o p u) rest = begins_prefix o p
starts_unary (UnaryPrimary p) rest = starts_primary p rest

-- the first token of an expression begins one
pub starts_expr : (e : ExprTree) (rest : List Token) → begins_expr (next (spell_expr e ++ rest)) ≡ true
starts_expr (ExprUnary u) rest = starts_unary u rest
starts_expr (ExprBinary l o p r) rest = subst (λ (u : List Token). begins_expr (next u) ≡ true) (sym (append_assoc (spell_expr l) (mark (operator_kind o) p ∷ spell_expr r) rest)) (starts_expr l (mark (operator_kind o) p ∷ (spell_expr r ++ rest)))
starts_expr (ExprIn l p b rs c) rest = subst (λ (u : List Token). begins_expr (next u) ≡ true) (sym (append_assoc (spell_expr l) (mark kind.In p ∷ mark kind.LeftBracket b ∷ (spell_ranges rs ++ mark kind.RightBracket c ∷ [])) rest)) (starts_expr l (mark kind.In p ∷ mark kind.LeftBracket b ∷ ((spell_ranges rs ++ mark kind.RightBracket c ∷ []) ++ rest)))

not_both : (b : Bool) → b ≡ true → b ≡ false → ⊥
not_both true e f = absurd cc
not_both false e f = absurd cc

-- a mark that begins no expression isn't its first token
apart : (k : Kind) → ((place : Place) → begins_expr (Some (mark k place)) ≡ false) → (n : Option Token) → begins_expr n ≡ true → IsNo k n
apart k absent None e = refl
apart k absent (Some t) e = go (is_mark k t) refl
  where
    go : (b : Bool) → is_mark k t ≡ b → b ≡ false
    go false f = refl
    go true f = absurd (not_both (begins_expr (Some t)) e (ap (λ (u : Token). begins_expr (Some u)) (mark_is k t f) ∙ absent t.place))

no_semicolon : (place : Place) → begins_expr (Some (mark kind.Semicolon place)) ≡ false
unfolding begins_expr is_mark is_number is_name prefix_of is_bare
no_semicolon place = refl

no_if : (place : Place) → begins_expr (Some (mark kind.If place)) ≡ false
unfolding begins_expr is_mark is_number is_name prefix_of is_bare
no_if place = refl

no_else : (place : Place) → begins_expr (Some (mark kind.Else place)) ≡ false
unfolding begins_expr is_mark is_number is_name prefix_of is_bare
no_else place = refl

no_unique : (place : Place) → begins_expr (Some (mark kind.Unique place)) ≡ false
unfolding begins_expr is_mark is_number is_name prefix_of is_bare
no_unique place = refl

no_foreach : (place : Place) → begins_expr (Some (mark kind.Foreach place)) ≡ false
unfolding begins_expr is_mark is_number is_name prefix_of is_bare
no_foreach place = refl

no_left_brace : (place : Place) → begins_expr (Some (mark kind.LeftBrace place)) ≡ false
unfolding begins_expr is_mark is_number is_name prefix_of is_bare
no_left_brace place = refl

no_right_brace : (place : Place) → begins_expr (Some (mark kind.RightBrace place)) ≡ false
unfolding begins_expr is_mark is_number is_name prefix_of is_bare
no_right_brace place = refl

no_right_parenthesis : (place : Place) → begins_expr (Some (mark kind.RightParenthesis place)) ≡ false
unfolding begins_expr is_mark is_number is_name prefix_of is_bare
no_right_parenthesis place = refl

pub no_parenthesis_begins : (n : Option Token) → begins_expr n ≡ true → IsNo kind.RightParenthesis n
no_parenthesis_begins n e = apart kind.RightParenthesis no_right_parenthesis n e

-- ---- constraints

-- which constraint the next token begins
pub record BeginsItem (semicolon if_word unique foreach : Bool) (n : Option Token) : Type 0 where
  pub is_semicolon : next_is (is_mark kind.Semicolon) n ≡ semicolon
  pub is_if : next_is (is_mark kind.If) n ≡ if_word
  pub is_unique : next_is (is_mark kind.Unique) n ≡ unique
  pub is_foreach : next_is (is_mark kind.Foreach) n ≡ foreach
  -- it neither opens nor closes a block, and is no `else`
  pub is_no_brace : IsNo kind.LeftBrace n
  pub is_no_end : IsNo kind.RightBrace n
  pub is_no_else : IsNo kind.Else n

pub begins_empty : (p : Place) → BeginsItem true false false false (Some (mark kind.Semicolon p))
unfolding is_mark
begins_empty p = record { is_semicolon = refl; is_if = refl; is_unique = refl; is_foreach = refl; is_no_brace = refl; is_no_end = refl; is_no_else = refl }

pub begins_if : (p : Place) → BeginsItem false true false false (Some (mark kind.If p))
unfolding is_mark
begins_if p = record { is_semicolon = refl; is_if = refl; is_unique = refl; is_foreach = refl; is_no_brace = refl; is_no_end = refl; is_no_else = refl }

pub begins_unique : (p : Place) → BeginsItem false false true false (Some (mark kind.Unique p))
unfolding is_mark
begins_unique p = record { is_semicolon = refl; is_if = refl; is_unique = refl; is_foreach = refl; is_no_brace = refl; is_no_end = refl; is_no_else = refl }

pub begins_foreach : (p : Place) → BeginsItem false false false true (Some (mark kind.Foreach p))
unfolding is_mark
begins_foreach p = record { is_semicolon = refl; is_if = refl; is_unique = refl; is_foreach = refl; is_no_brace = refl; is_no_end = refl; is_no_else = refl }

pub begins_with_expr : (n : Option Token) → begins_expr n ≡ true → BeginsItem false false false false n
begins_with_expr n e = record {
  is_semicolon = apart kind.Semicolon no_semicolon n e;
  is_if = apart kind.If no_if n e;
  is_unique = apart kind.Unique no_unique n e;
  is_foreach = apart kind.Foreach no_foreach n e;
  is_no_brace = apart kind.LeftBrace no_left_brace n e;
  is_no_end = apart kind.RightBrace no_right_brace n e;
  is_no_else = apart kind.Else no_else n e;
}

pub record StartsItem (n : Option Token) : Type 0 where
  pub no_brace : IsNo kind.LeftBrace n
  pub no_end : IsNo kind.RightBrace n
  pub no_else : IsNo kind.Else n

starts : (s i u f : Bool) (n : Option Token) → BeginsItem s i u f n → StartsItem n
starts s i u f n b = record { no_brace = b.is_no_brace; no_end = b.is_no_end; no_else = b.is_no_else }

pub item_starts : (item : ConstraintItemTree) (rest : List Token) → StartsItem (next (spell_constraint_item item ++ rest))
item_starts (ConstraintItemEmpty p) rest = starts _ _ _ _ _ (begins_empty p)
item_starts (ConstraintItemExpr e p) rest = starts _ _ _ _ _ (begins_with_expr _ (subst (λ (u : List Token). begins_expr (next u) ≡ true) (sym (append_assoc (spell_expr e) (mark kind.Semicolon p ∷ []) rest)) (starts_expr e (mark kind.Semicolon p ∷ rest))))
item_starts (ConstraintItemImplies e p s) rest = starts _ _ _ _ _ (begins_with_expr _ (subst (λ (u : List Token). begins_expr (next u) ≡ true) (sym (append_assoc (spell_expr e) (mark kind.Arrow p ∷ spell_constraint s) rest)) (starts_expr e (mark kind.Arrow p ∷ (spell_constraint s ++ rest)))))
item_starts (ConstraintItemIf i l e r t) rest = starts _ _ _ _ _ (begins_if i)
item_starts (ConstraintItemIfElse i l e r t x o) rest = starts _ _ _ _ _ (begins_if i)
item_starts (ConstraintItemUnique u l e es r s) rest = starts _ _ _ _ _ (begins_unique u)
item_starts (ConstraintItemForeach f l n ns b i r c s) rest = starts _ _ _ _ _ (begins_foreach f)
