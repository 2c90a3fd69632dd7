-- What judging the types of sources says of them.
use Rattle.std.specs.Prelude.{◌⊎◌, ℕ, List}
use Rattle.pst_ast.specs.DeclarationTree.{UnitTree}
use Rattle.pst_ast.specs.declared.referent.Checked.{Checked}
use Rattle.pst_ast.specs.declared.referent.Checked.TheVariants.{Is, Breaks}
use Rattle.pst_ast.specs.declared.referent.Finding.{Finding}
use Rattle.pst_ast.specs.Breaches.{IsLeast, IsNone}
use Rattle.pst_names.specs.declared.end.RuleEnd.{RuleEnd}
use Rattle.pst_names.specs.declared.end.RuleEnd.TheVariants as rule_end
use Rattle.pst_type_rules.specs.declared.typed.ConstantValue.{ConstantValue}
use Rattle.pst_type_rules.specs.declared.typed.Typed.{Typed}
use Rattle.pst_type_rules.specs.TypeRules.{TypeBreach}
use Rattle.pst_type_rules.specs.Typed.{AreConstants}
use Rattle.pst_enum_rules.specs.Breaches.{IsEnumBreach}
use Rattle.pst_declaration_rules.specs.Breaches.{IsDeclarationBreach}
use Rattle.pst_handle_rules.specs.Broken.{IsUnsteady, IsBoundTwice}

-- they break none of the rules of types, and have these constants
abbrev pub AreTyped : List UnitTree → List (List ℕ) → List ConstantValue → Type 0
AreTyped units names constants = IsNone (TypeBreach units names) × AreConstants units names constants

-- the least of the breaches of the rules of types, where memory sufficed
abbrev pub IsUntyped : List UnitTree → List (List ℕ) → RuleEnd → Type 0
IsUntyped units names (rule_end.Broken place rule) = IsLeast (TypeBreach units names) place rule
IsUntyped units names rule_end.NoMemory = Unit {0}

-- a breach of the rules of types
abbrev pub IsBreach : List UnitTree → List (List ℕ) → Finding → Type 0
IsBreach units names f = TypeBreach units names f.place f.rule

-- an enum, a declaration, a name of a handle, or a bind of an activity breaks it
abbrev pub IsOtherBreach : List UnitTree → List (List ℕ) → Finding → Type 0
IsOtherBreach units names f = (IsEnumBreach units names f ⊎ IsDeclarationBreach units names f) ⊎ (IsUnsteady units names f ⊎ IsBoundTwice units names f)

-- what judging them says of them, where memory sufficed
abbrev pub IsChecked : List UnitTree → List (List ℕ) → Checked Typed → Type 0
IsChecked units names (Is typed) = AreTyped units names typed.constants
IsChecked units names (Breaks place rule) = IsLeast (TypeBreach units names) place rule
