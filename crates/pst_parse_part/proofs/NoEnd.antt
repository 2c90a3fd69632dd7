-- No shared part has the token `End` in it.
use Rattle.pst_ast.specs.ExpressionSpelling.{spell_expr}
use Rattle.pst_ast.specs.Marks.{spell_option}
use Rattle.pst_ast.specs.SharedSpelling.{spell_next_name, spell_names, spell_scoped_name, spell_type_name, spell_low, spell_width, spell_plain}
use Rattle.pst_ast.specs.SharedTree.{NamesTree, LowTree, WidthTree, PlainTree, MakeNames, MakeLow, MakeWidth, PlainInt, PlainBit, PlainBool}
use Rattle.pst_ast.specs.declared.shared.NextName.{NextName}
use Rattle.pst_ast.specs.declared.shared.ScopedName.{ScopedName}
use Rattle.pst_ast.specs.declared.shared.TypeName.{TypeName}
use Rattle.pst_parse_operator.proofs.NoEnd.{expr_free}
use Rattle.pst_reading.proofs.Whole.{NoEnd, both_free}
use Rattle.pst_token.specs.declared.token.Token.{Token}
use Rattle.std.proofs.Common.{List, [], ◌∷◌, Option, Some, None}
use Rattle.std.specs.List.{flat_map}

module _ {A : Type 0} (spell : A → List Token) (free : (x : A) → NoEnd (spell x)) where
  pub free_option : (x : Option A) → NoEnd (spell_option spell x)
  free_option None = tt
  free_option (Some a) = free a

  pub free_list : (xs : List A) → NoEnd (flat_map spell xs)
  free_list [] = tt
  free_list (x ∷ xs) = both_free (spell x) (flat_map spell xs) (free x) (free_list xs)

pub scoped_name_free : (x : ScopedName) → NoEnd (spell_scoped_name x)
scoped_name_free x = (λ e. cc, (λ e. cc, tt))

pub type_name_free : (x : TypeName) → NoEnd (spell_type_name x)
type_name_free x = (λ e. cc, (free_option spell_scoped_name (λ x. (scoped_name_free x)) x.second))

pub low_free : (x : LowTree) → NoEnd (spell_low x)
low_free (MakeLow colon expr) = (λ e. cc, (expr_free expr))

pub width_free : (x : WidthTree) → NoEnd (spell_width x)
width_free (MakeWidth left_bracket expr low right_bracket) = (λ e. cc, both_free (spell_expr expr) _ (expr_free expr) (both_free (spell_option spell_low low) _ (free_option spell_low (λ x. (low_free x)) low) (λ e. cc, tt)))

pub plain_free : (x : PlainTree) → NoEnd (spell_plain x)
plain_free (PlainInt int width) = (λ e. cc, free_option spell_width (λ x. width_free x) width)
plain_free (PlainBit bit width) = (λ e. cc, free_option spell_width (λ x. width_free x) width)
plain_free (PlainBool place) = (λ e. cc, tt)

pub next_name_free : (x : NextName) → NoEnd (spell_next_name x)
next_name_free x = (λ e. cc, (λ e. cc, tt))

pub names_free : (x : NamesTree) → NoEnd (spell_names x)
names_free (MakeNames first rest) = (λ e. cc, (free_list spell_next_name (λ x. (next_name_free x)) rest))
