-- Tokens told apart by the numbers of their kinds.
use Rattle.std.proofs.Common.{◌≡◌, ℕ, zero, suc, Bool, true, false, ◌&&◌, ◌==◌, pos, List, [], ◌∷◌, Some, Option, None, refl, sym, ap, ◌∙◌}
use Rattle.std.proofs.lemmas.Bool.{eqb-true, eq-eqb, and_parts}
use Rattle.std.proofs.lemmas.Bool.Decides.{Decides-int_eq}
use Rattle.std.specs.Ordering.{int_eq}
use Rattle.pst_token.specs.declared.kind.Kind.{Kind}
use Rattle.pst_token.specs.declared.kind.Kind.TheVariants as kind
use Rattle.pst_token.specs.declared.token.Token.{Token}
use Rattle.pst_ast.specs.declared.leaf.Name.{Name}
use Rattle.pst_ast.specs.declared.leaf.Number.{Number}
use Rattle.pst_ast.specs.Marks.{mark, name_token, number_token}
use Rattle.pst_reading.specs.Kinds.{number_of, is_mark, is_name, is_number}

-- the kind at a place of a list
kind_at : List Kind → ℕ → Kind
kind_at [] n = kind.End
kind_at (k ∷ ks) zero = k
kind_at (k ∷ ks) (suc n) = kind_at ks n

kinds : List Kind
kinds = kind.Name ∷ kind.Number ∷ kind.End ∷ kind.Abstract ∷ kind.Action ∷ kind.Activity ∷ kind.Bind ∷ kind.Bit ∷ kind.Body ∷ kind.Bool ∷ kind.Buffer ∷ kind.Component ∷ kind.Constraint ∷ kind.Default ∷ kind.Do ∷ kind.Else ∷ kind.Enum ∷ kind.Exec ∷ kind.False ∷ kind.Foreach ∷ kind.Function ∷ kind.If ∷ kind.Import ∷ kind.In ∷ kind.Input ∷ kind.Int ∷ kind.JoinBranch ∷ kind.JoinFirst ∷ kind.JoinNone ∷ kind.JoinSelect ∷ kind.Lock ∷ kind.Match ∷ kind.Output ∷ kind.Parallel ∷ kind.Pool ∷ kind.Rand ∷ kind.Repeat ∷ kind.Resource ∷ kind.Schedule ∷ kind.Select ∷ kind.Sequence ∷ kind.Share ∷ kind.State ∷ kind.Stream ∷ kind.Target ∷ kind.True ∷ kind.Unique ∷ kind.Void ∷ kind.With ∷ kind.LeftBrace ∷ kind.RightBrace ∷ kind.LeftParenthesis ∷ kind.RightParenthesis ∷ kind.LeftBracket ∷ kind.RightBracket ∷ kind.Semicolon ∷ kind.Comma ∷ kind.Dot ∷ kind.DotDot ∷ kind.Colon ∷ kind.ColonColon ∷ kind.Equal ∷ kind.EqualEqual ∷ kind.NotEqual ∷ kind.Less ∷ kind.LessEqual ∷ kind.Greater ∷ kind.GreaterEqual ∷ kind.LessLess ∷ kind.GreaterGreater ∷ kind.Plus ∷ kind.Minus ∷ kind.Star ∷ kind.Slash ∷ kind.Percent ∷ kind.And ∷ kind.AndAnd ∷ kind.Or ∷ kind.OrOr ∷ kind.Caret ∷ kind.Not ∷ kind.Tilde ∷ kind.Arrow ∷ []

has_number : (k : Kind) → kind_at kinds (number_of k) ≡ k
unfolding kind_at kinds
has_number kind.Name = refl
has_number kind.Number = refl
has_number kind.End = refl
has_number kind.Abstract = refl
has_number kind.Action = refl
has_number kind.Activity = refl
has_number kind.Bind = refl
has_number kind.Bit = refl
has_number kind.Body = refl
has_number kind.Bool = refl
has_number kind.Buffer = refl
has_number kind.Component = refl
has_number kind.Constraint = refl
has_number kind.Default = refl
has_number kind.Do = refl
has_number kind.Else = refl
has_number kind.Enum = refl
has_number kind.Exec = refl
has_number kind.False = refl
has_number kind.Foreach = refl
has_number kind.Function = refl
has_number kind.If = refl
has_number kind.Import = refl
has_number kind.In = refl
has_number kind.Input = refl
has_number kind.Int = refl
has_number kind.JoinBranch = refl
has_number kind.JoinFirst = refl
has_number kind.JoinNone = refl
has_number kind.JoinSelect = refl
has_number kind.Lock = refl
has_number kind.Match = refl
has_number kind.Output = refl
has_number kind.Parallel = refl
has_number kind.Pool = refl
has_number kind.Rand = refl
has_number kind.Repeat = refl
has_number kind.Resource = refl
has_number kind.Schedule = refl
has_number kind.Select = refl
has_number kind.Sequence = refl
has_number kind.Share = refl
has_number kind.State = refl
has_number kind.Stream = refl
has_number kind.Target = refl
has_number kind.True = refl
has_number kind.Unique = refl
has_number kind.Void = refl
has_number kind.With = refl
has_number kind.LeftBrace = refl
has_number kind.RightBrace = refl
has_number kind.LeftParenthesis = refl
has_number kind.RightParenthesis = refl
has_number kind.LeftBracket = refl
has_number kind.RightBracket = refl
has_number kind.Semicolon = refl
has_number kind.Comma = refl
has_number kind.Dot = refl
has_number kind.DotDot = refl
has_number kind.Colon = refl
has_number kind.ColonColon = refl
has_number kind.Equal = refl
has_number kind.EqualEqual = refl
has_number kind.NotEqual = refl
has_number kind.Less = refl
has_number kind.LessEqual = refl
has_number kind.Greater = refl
has_number kind.GreaterEqual = refl
has_number kind.LessLess = refl
has_number kind.GreaterGreater = refl
has_number kind.Plus = refl
has_number kind.Minus = refl
has_number kind.Star = refl
has_number kind.Slash = refl
has_number kind.Percent = refl
has_number kind.And = refl
has_number kind.AndAnd = refl
has_number kind.Or = refl
has_number kind.OrOr = refl
has_number kind.Caret = refl
has_number kind.Not = refl
has_number kind.Tilde = refl
has_number kind.Arrow = refl

pub same_kind : (j k : Kind) → number_of j ≡ number_of k → j ≡ k
same_kind j k e = sym (has_number j) ∙ ap (kind_at kinds) e ∙ has_number k

zero_number : (z : _) → int_eq z (pos 0) ≡ true → z ≡ pos 0
zero_number z e = (Decides-int_eq z (pos 0)).0 e

-- a token that is a mark is it at its place
pub mark_is : (k : Kind) (t : Token) → is_mark k t ≡ true → t ≡ mark k t.place
unfolding is_mark
mark_is k t e =
    let h = and_parts (number_of t.kind == number_of k) (t.name.0 == 0 && int_eq t.number (pos 0)) e in
    let g = and_parts (t.name.0 == 0) (int_eq t.number (pos 0)) h.1 in
    rw (same_kind t.kind k (eqb-true (number_of t.kind) (number_of k) h.0), eqb-true t.name.0 0 g.0, zero_number t.number g.1) refl

pub mark_is_so : (k : Kind) (place : _) → is_mark k (mark k place) ≡ true
unfolding is_mark
mark_is_so k place = rw (eq-eqb (number_of k) (number_of k) refl) refl

-- a name token by its name
pub name_of : Token → Name
name_of t = record { id = t.name; place = t.place }

pub name_is : (t : Token) → is_name t ≡ true → t ≡ name_token (record { id = t.name; place = t.place })
unfolding is_name
name_is t e =
    let h = and_parts (number_of t.kind == number_of kind.Name) (int_eq t.number (pos 0)) e in
    rw (same_kind t.kind kind.Name (eqb-true (number_of t.kind) (number_of kind.Name) h.0), zero_number t.number h.1) refl

pub name_is_so : (name : Name) → is_name (name_token name) ≡ true
unfolding is_name
name_is_so name = refl

pub number_is : (t : Token) → is_number t ≡ true → t ≡ number_token (record { value = t.number; place = t.place })
unfolding is_number
number_is t e =
    let h = and_parts (number_of t.kind == number_of kind.Number) (t.name.0 == 0) e in
    rw (same_kind t.kind kind.Number (eqb-true (number_of t.kind) (number_of kind.Number) h.0), eqb-true t.name.0 0 h.1) refl

pub number_is_so : (number : Number) → is_number (number_token number) ≡ true
unfolding is_number
number_is_so number = refl
