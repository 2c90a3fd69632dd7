-- Plain types with their widths, by the values that constants have.
use Rattle.std.specs.Prelude.{ℤ, pos, ◌+ℤ◌, int_lt, Bool, false, not, ◌||◌, Option, Some, None, if◌then◌else◌}
use Rattle.std.specs.Option.{option_and_then, option_map}
use Rattle.std.specs.Ordering.{int_eq}
use Rattle.pst_base.specs.declared.position.Place.{Place}
use Rattle.pst_ast.specs.ExpressionTree.{ExprTree}
use Rattle.pst_ast.specs.SharedTree.{MakeLow, WidthTree, MakeWidth, PlainTree, PlainInt, PlainBit, PlainBool}
use Rattle.pst_ast.specs.declared.referent.Finding.{Finding}
use Rattle.pst_ast.specs.NameRules.{finding}
use Rattle.pst_type_rules.specs.TypeRules.{lowest_in}

abbrev pub one_more : ℤ → ℤ
one_more z = z +ℤ pos 1

abbrev pub is_zero : Option ℤ → Bool
is_zero None = false
is_zero (Some v) = int_eq v (pos 0)

abbrev pub is_not_zero : Option ℤ → Bool
is_not_zero None = false
is_not_zero (Some v) = not (int_eq v (pos 0))

-- [W], or [M:0] for M + 1
abbrev pub width_by : (ExprTree → Option ℤ) → WidthTree → Option ℤ
width_by value (MakeWidth left expr None right) = value expr
width_by value (MakeWidth left highest (Some (MakeLow colon lowest)) right) = if is_zero (value lowest) then option_map one_more (value highest) else None

abbrev pub is_outside : ℤ → Option ℤ → Bool
is_outside least None = false
is_outside least (Some w) = int_lt w least || int_lt (pos 63) w

abbrev pub is_wrong : (ExprTree → Option ℤ) → ℤ → WidthTree → Bool
is_wrong value least width = is_outside least (width_by value width) || is_not_zero (option_and_then value (lowest_in width))

abbrev pub width_finding : (ExprTree → Option ℤ) → ℤ → Place → Option WidthTree → Option Finding
width_finding value least place None = None
width_finding value least place (Some width) = if is_wrong value least width then finding place 9 else None

abbrev pub plain_by : (ExprTree → Option ℤ) → PlainTree → Option Finding
plain_by value (PlainInt place width) = width_finding value (pos 2) place width
plain_by value (PlainBit place width) = width_finding value (pos 1) place width
plain_by value (PlainBool place) = None
