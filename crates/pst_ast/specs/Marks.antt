-- The tokens of marks, reserved words, names and numbers.
use Rattle.std.specs.Prelude.{List, [], pos, Option, Some, None}
use Rattle.pst_base.specs.declared.position.Place.{Place}
use Rattle.pst_token.specs.declared.token.Token.{Token}
use Rattle.pst_token.specs.declared.kind.Kind.{Kind}
use Rattle.pst_token.specs.declared.kind.Kind.TheVariants as kind
use Rattle.pst_token.specs.Tokens.{token_of}
use Rattle.pst_ast.specs.declared.leaf.Name.{Name}
use Rattle.pst_ast.specs.declared.leaf.Number.{Number}
use Rattle.pst_ast.specs.declared.declaration.ClaimWord.{ClaimWord}
use Rattle.pst_ast.specs.declared.declaration.ObjectWord.{ObjectWord}
use Rattle.pst_ast.specs.declared.leaf.Operator.{Operator}
use Rattle.pst_ast.specs.declared.leaf.PrefixOperator.{PrefixOperator}
use Rattle.pst_ast.specs.declared.declaration.ReferenceWord.{ReferenceWord}
use Rattle.pst_ast.specs.declared.activity.TogetherWord.{TogetherWord}
use Rattle.pst_ast.specs.declared.declaration.ClaimWord.TheVariants as the_claim_word
use Rattle.pst_ast.specs.declared.declaration.ObjectWord.TheVariants as the_object_word
use Rattle.pst_ast.specs.declared.leaf.Operator.TheVariants as the_operator
use Rattle.pst_ast.specs.declared.leaf.PrefixOperator.TheVariants as the_prefix_operator
use Rattle.pst_ast.specs.declared.declaration.ReferenceWord.TheVariants as the_reference_word
use Rattle.pst_ast.specs.declared.activity.TogetherWord.TheVariants as the_together_word

-- a mark or reserved word at a place
abbrev pub mark : Kind → Place → Token
mark kind place = token_of kind 0 (pos 0) place

abbrev pub name_token : Name → Token
name_token name = record { kind = kind.Name; name = name.id; number = pos 0; place = name.place }

abbrev pub number_token : Number → Token
number_token number = token_of kind.Number 0 number.value number.place

-- the tokens of a part that may be left out
abbrev pub spell_option : {A : Type 0} → (A → List Token) → Option A → List Token
spell_option spell None = []
spell_option spell (Some part) = spell part

-- a part that may be left out is so where it stands
abbrev pub OptionIs : {A : Type 0} → (A → Type 0) → Option A → Type 0
OptionIs is None = Unit {0}
OptionIs is (Some part) = is part

abbrev pub claim_word_kind : ClaimWord → Kind
claim_word_kind the_claim_word.Lock = kind.Lock
claim_word_kind the_claim_word.Share = kind.Share

abbrev pub object_word_kind : ObjectWord → Kind
object_word_kind the_object_word.Buffer = kind.Buffer
object_word_kind the_object_word.Stream = kind.Stream
object_word_kind the_object_word.State = kind.State
object_word_kind the_object_word.Resource = kind.Resource

abbrev pub operator_kind : Operator → Kind
operator_kind the_operator.Multiply = kind.Star
operator_kind the_operator.Divide = kind.Slash
operator_kind the_operator.Remainder = kind.Percent
operator_kind the_operator.Add = kind.Plus
operator_kind the_operator.Subtract = kind.Minus
operator_kind the_operator.ShiftLeft = kind.LessLess
operator_kind the_operator.ShiftRight = kind.GreaterGreater
operator_kind the_operator.Less = kind.Less
operator_kind the_operator.LessEqual = kind.LessEqual
operator_kind the_operator.Greater = kind.Greater
operator_kind the_operator.GreaterEqual = kind.GreaterEqual
operator_kind the_operator.Equal = kind.EqualEqual
operator_kind the_operator.NotEqual = kind.NotEqual
operator_kind the_operator.BitAnd = kind.And
operator_kind the_operator.BitXor = kind.Caret
operator_kind the_operator.BitOr = kind.Or
operator_kind the_operator.And = kind.AndAnd
operator_kind the_operator.Or = kind.OrOr

abbrev pub prefix_operator_kind : PrefixOperator → Kind
prefix_operator_kind the_prefix_operator.Negate = kind.Minus
prefix_operator_kind the_prefix_operator.Not = kind.Not
prefix_operator_kind the_prefix_operator.Complement = kind.Tilde

abbrev pub reference_word_kind : ReferenceWord → Kind
reference_word_kind the_reference_word.Input = kind.Input
reference_word_kind the_reference_word.Output = kind.Output

abbrev pub together_word_kind : TogetherWord → Kind
together_word_kind the_together_word.Parallel = kind.Parallel
together_word_kind the_together_word.Schedule = kind.Schedule
