-- Tokens and the operators that they are.
use Rattle.std.proofs.Common.{◌≡◌, ℕ, Bool, true, false, ◌==◌, if◌then◌else◌, pos, Some, Option, None, refl, sym, ap, ◌∙◌}
use Rattle.std.proofs.lemmas.Bool.{eqb-true, eq-eqb, and_parts}
use Rattle.std.proofs.lemmas.Bool.Decides.{Decides-int_eq}
use Rattle.std.specs.Ordering.{int_eq}
use Rattle.pst_token.specs.declared.kind.Kind.{Kind}
use Rattle.pst_token.specs.declared.kind.Kind.TheVariants as kind
use Rattle.pst_token.specs.declared.token.Token.{Token}
use Rattle.pst_ast.specs.declared.leaf.Operator.{Operator}
use Rattle.pst_ast.specs.declared.leaf.Operator.TheVariants as the_operator
use Rattle.pst_ast.specs.declared.leaf.PrefixOperator.{PrefixOperator}
use Rattle.pst_ast.specs.declared.leaf.PrefixOperator.TheVariants as the_prefix_operator
use Rattle.pst_ast.specs.ExpressionProper.{level_of}
use Rattle.pst_ast.specs.Marks.{mark, operator_kind, prefix_operator_kind}
use Rattle.pst_reading.specs.Kinds.{is_mark, next_is}
use Rattle.pst_parse_operator.specs.Operators.{operator_of_kind, prefix_of_kind, is_bare, of_level, operator_of, is_in, prefix_of}

either_operator : Option Operator → Operator → Operator
either_operator None o = o
either_operator (Some p) o = p

-- the kind of an operator is the one that it is of
kind_is : (k : Kind) (o : Operator) → operator_of_kind k ≡ Some o → k ≡ operator_kind o
unfolding either_operator
kind_is kind.Star o e = ap (λ (x : Option Operator). operator_kind (either_operator x the_operator.Multiply)) e
kind_is kind.Slash o e = ap (λ (x : Option Operator). operator_kind (either_operator x the_operator.Divide)) e
kind_is kind.Percent o e = ap (λ (x : Option Operator). operator_kind (either_operator x the_operator.Remainder)) e
kind_is kind.Plus o e = ap (λ (x : Option Operator). operator_kind (either_operator x the_operator.Add)) e
kind_is kind.Minus o e = ap (λ (x : Option Operator). operator_kind (either_operator x the_operator.Subtract)) e
kind_is kind.LessLess o e = ap (λ (x : Option Operator). operator_kind (either_operator x the_operator.ShiftLeft)) e
kind_is kind.GreaterGreater o e = ap (λ (x : Option Operator). operator_kind (either_operator x the_operator.ShiftRight)) e
kind_is kind.Less o e = ap (λ (x : Option Operator). operator_kind (either_operator x the_operator.Less)) e
kind_is kind.LessEqual o e = ap (λ (x : Option Operator). operator_kind (either_operator x the_operator.LessEqual)) e
kind_is kind.Greater o e = ap (λ (x : Option Operator). operator_kind (either_operator x the_operator.Greater)) e
kind_is kind.GreaterEqual o e = ap (λ (x : Option Operator). operator_kind (either_operator x the_operator.GreaterEqual)) e
kind_is kind.EqualEqual o e = ap (λ (x : Option Operator). operator_kind (either_operator x the_operator.Equal)) e
kind_is kind.NotEqual o e = ap (λ (x : Option Operator). operator_kind (either_operator x the_operator.NotEqual)) e
kind_is kind.And o e = ap (λ (x : Option Operator). operator_kind (either_operator x the_operator.BitAnd)) e
kind_is kind.Caret o e = ap (λ (x : Option Operator). operator_kind (either_operator x the_operator.BitXor)) e
kind_is kind.Or o e = ap (λ (x : Option Operator). operator_kind (either_operator x the_operator.BitOr)) e
kind_is kind.AndAnd o e = ap (λ (x : Option Operator). operator_kind (either_operator x the_operator.And)) e
kind_is kind.OrOr o e = ap (λ (x : Option Operator). operator_kind (either_operator x the_operator.Or)) e
kind_is _ o e = absurd cc

pub kind_is_so : (o : Operator) → operator_of_kind (operator_kind o) ≡ Some o
kind_is_so the_operator.Multiply = refl
kind_is_so the_operator.Divide = refl
kind_is_so the_operator.Remainder = refl
kind_is_so the_operator.Add = refl
kind_is_so the_operator.Subtract = refl
kind_is_so the_operator.ShiftLeft = refl
kind_is_so the_operator.ShiftRight = refl
kind_is_so the_operator.Less = refl
kind_is_so the_operator.LessEqual = refl
kind_is_so the_operator.Greater = refl
kind_is_so the_operator.GreaterEqual = refl
kind_is_so the_operator.Equal = refl
kind_is_so the_operator.NotEqual = refl
kind_is_so the_operator.BitAnd = refl
kind_is_so the_operator.BitXor = refl
kind_is_so the_operator.BitOr = refl
kind_is_so the_operator.And = refl
kind_is_so the_operator.Or = refl

either_prefix : Option PrefixOperator → PrefixOperator → PrefixOperator
either_prefix None o = o
either_prefix (Some p) o = p

prefix_kind_is : (k : Kind) (o : PrefixOperator) → prefix_of_kind k ≡ Some o → k ≡ prefix_operator_kind o
unfolding either_prefix
prefix_kind_is kind.Minus o e = ap (λ (x : Option PrefixOperator). prefix_operator_kind (either_prefix x the_prefix_operator.Negate)) e
prefix_kind_is kind.Not o e = ap (λ (x : Option PrefixOperator). prefix_operator_kind (either_prefix x the_prefix_operator.Not)) e
prefix_kind_is kind.Tilde o e = ap (λ (x : Option PrefixOperator). prefix_operator_kind (either_prefix x the_prefix_operator.Complement)) e
prefix_kind_is _ o e = absurd cc

pub prefix_kind_is_so : (o : PrefixOperator) → prefix_of_kind (prefix_operator_kind o) ≡ Some o
prefix_kind_is_so the_prefix_operator.Negate = refl
prefix_kind_is_so the_prefix_operator.Not = refl
prefix_kind_is_so the_prefix_operator.Complement = refl

bare : (k : Kind) (t : Token) → is_bare t ≡ true → t.kind ≡ k → t ≡ mark k t.place
unfolding is_bare
bare k t e f =
    let g = and_parts (t.name.0 == 0) (int_eq t.number (pos 0)) e in
    rw (f, eqb-true t.name.0 0 g.0, (Decides-int_eq t.number (pos 0)).0 g.1) refl

-- what an operator of a level is
pub record IsOperator (level : ℕ) (t : Token) (o : Operator) : Type 0 where
  pub is : t ≡ mark (operator_kind o) t.place
  pub level_is : level_of o ≡ level

of_level_is : (level : ℕ) (k : Kind) (o : Operator) (x : Option Operator) → operator_of_kind k ≡ x → of_level level x ≡ Some o → (operator_of_kind k ≡ Some o) × (level_of o ≡ level)
unfolding either_operator
of_level_is level k o None e f = absurd cc
of_level_is level k o (Some p) e f = go (level_of p == level) refl f
  where
    go : (b : Bool) → (level_of p == level) ≡ b → (if b then Some p else None) ≡ Some o → (operator_of_kind k ≡ Some o) × (level_of o ≡ level)
    go true g h = (e ∙ h, ap (λ (x : Option Operator). level_of (either_operator x p)) (sym h) ∙ eqb-true (level_of p) level g)
    go false g h = absurd cc

pub operator_is : (level : ℕ) (t : Token) (o : Operator) → operator_of level (Some t) ≡ Some o → IsOperator level t o
unfolding operator_of
operator_is level t o e = go (is_bare t) refl e
  where
    go : (b : Bool) → is_bare t ≡ b → (if b then of_level level (operator_of_kind t.kind) else None) ≡ Some o → IsOperator level t o
    go true g h =
        let p = of_level_is level t.kind o (operator_of_kind t.kind) refl h in
        record { is = bare (operator_kind o) t g (kind_is t.kind o p.0); level_is = p.1 }
    go false g h = absurd cc

pub operator_is_so : (o : Operator) (place : _) → operator_of (level_of o) (Some (mark (operator_kind o) place)) ≡ Some o
unfolding operator_of is_bare
operator_is_so o place = rw (kind_is_so o, eq-eqb (level_of o) (level_of o) refl) refl

pub no_operator : (level : ℕ) → operator_of level None ≡ None
unfolding operator_of
no_operator level = refl

pub in_is : (level : ℕ) (next : Option Token) → is_in level next ≡ true → (level ≡ 6) × (next_is (is_mark kind.In) next ≡ true)
unfolding is_in
in_is level next e =
    let h = and_parts (level == 6) (next_is (is_mark kind.In) next) e in
    (eqb-true level 6 h.0, h.1)

pub record IsPrefix (t : Token) (o : PrefixOperator) : Type 0 where
  pub is : t ≡ mark (prefix_operator_kind o) t.place

pub prefix_is : (t : Token) (o : PrefixOperator) → prefix_of (Some t) ≡ Some o → IsPrefix t o
unfolding prefix_of
prefix_is t o e = go (is_bare t) refl e
  where
    go : (b : Bool) → is_bare t ≡ b → (if b then prefix_of_kind t.kind else None) ≡ Some o → IsPrefix t o
    go true g h = record { is = bare (prefix_operator_kind o) t g (prefix_kind_is t.kind o h) }
    go false g h = absurd cc

pub prefix_is_so : (o : PrefixOperator) (place : _) → prefix_of (Some (mark (prefix_operator_kind o) place)) ≡ Some o
unfolding prefix_of is_bare
prefix_is_so o place = rw (prefix_kind_is_so o) refl

pub no_prefix : prefix_of None ≡ None
unfolding prefix_of
no_prefix = refl
