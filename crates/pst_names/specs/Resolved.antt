-- What judging the names of sources finds.
use Rattle.std.specs.Prelude.{◌≡◌, ℕ, List, ◌∷◌, [], ◌++◌, ◌-◌, length, slice_get, Bool, Option, None, IsFalse, if◌then◌else◌}
use Rattle.std.specs.Option.{option_map}
use Rattle.std.specs.List.{list_any}
use Rattle.pst_ast.specs.DeclarationTree.{UnitTree}
use Rattle.pst_ast.specs.declared.referent.Checked.{Checked}
use Rattle.pst_ast.specs.declared.referent.Checked.TheVariants.{Is, Breaks}
use Rattle.pst_ast.specs.declared.referent.Finding.{Finding}
use Rattle.pst_ast.specs.Breaches.{IsLeast, IsNone}
use Rattle.pst_ast.specs.Declarations.{declarations}
use Rattle.pst_ast.specs.NameRules.{NameBreach, is_root_component, finish_of}
use Rattle.pst_ast.specs.Scopes.{AreScopes}
use Rattle.pst_ast.specs.declared.entry.Scopes.{Scopes}
use Rattle.pst_ast.specs.declared.entry.TypeEntry.{TypeEntry}
use Rattle.pst_ast.specs.declared.entry.NameMeaning.{NameMeaning}
use Rattle.pst_names.specs.declared.end.RuleEnd.{RuleEnd}
use Rattle.pst_names.specs.declared.end.RuleEnd.TheVariants as rule_end

-- they break none of the rules of names, and have these types and meanings
abbrev pub AreResolved : List UnitTree → List (List ℕ) → List TypeEntry → List NameMeaning → Type 0
AreResolved units names types meanings = IsNone (NameBreach units names) × AreScopes units names types meanings

-- the least of the breaches of the rules of names, where memory sufficed
abbrev pub IsUnresolved : List UnitTree → List (List ℕ) → RuleEnd → Type 0
IsUnresolved units names (rule_end.Broken place rule) = IsLeast (NameBreach units names) place rule
IsUnresolved units names rule_end.NoMemory = Unit {0}

-- what judging them says of them, where memory sufficed
abbrev pub IsJudged : List UnitTree → List (List ℕ) → Checked Scopes → Type 0
IsJudged units names (Is scopes) = AreResolved units names scopes.types scopes.meanings
IsJudged units names (Breaks place rule) = IsLeast (NameBreach units names) place rule

-- ---- parts of it

abbrev pub IsBreach : List UnitTree → List (List ℕ) → Finding → Type 0
IsBreach units names f = NameBreach units names f.place f.rule

-- the end of the last file, where none has the component `pss_top`
abbrev pub IsRootless : List UnitTree → List (List ℕ) → Finding → Type 0
IsRootless units names f =
    (front : List UnitTree) × (last : UnitTree) × (units ≡ front ++ last ∷ []) × IsFalse (list_any (is_root_component names) (declarations units)) × (f ≡ record { place = finish_of last; rule = 8 })

abbrev pub last_finish : List UnitTree → Option Finding
last_finish units = option_map (λ u. record { place = finish_of u; rule = 8 }) (slice_get units (length units - 1))

-- rule 8, unless there is such a component
abbrev pub root_finding : Bool → List UnitTree → Option Finding
root_finding has units = if has then None else last_finish units
