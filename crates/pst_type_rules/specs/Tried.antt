-- The rules of types on small sources, each token at a column of its own line where the source has but one.
use Rattle.std.specs.Prelude.{ℕ, ◌+◌, pos, List, [], ◌∷◌, Some, None, codes}
use Rattle.pst_base.specs.declared.position.Place.{Place}
use Rattle.pst_token.specs.declared.token.Token.{Token}
use Rattle.pst_token.specs.declared.kind.Kind.TheVariants as kind
use Rattle.pst_ast.specs.declared.leaf.Name.{Name}
use Rattle.pst_ast.specs.declared.activity.TogetherWord.TheVariants as word
use Rattle.pst_ast.specs.ExpressionTree.{ExprTree, ExprUnary, UnaryPrimary, PrimaryNumber, PartTree, MakePart, NoIndex, SomeIndex, MakeIndex, RangeBetween, MakeRanges, NoNextRangeRow}
use Rattle.pst_ast.specs.SharedTree.{PlainTree, PlainBit, MakeWidth, MakeDomain, TypeTree, TypePlain}
use Rattle.pst_ast.specs.ActivityTree.{StatementLabeled, StatementPlain, CoreTree, CoreDo, CoreTogether, WithNothing, JoinSelect, NoStatementRow, MoreStatementRow, MakeActivity}
use Rattle.pst_ast.specs.DeclarationTree.{UnitTree, MakeUnit, ItemComponent, MakeComponent, ComponentPartTree, ComponentPartAction, MakeAction, ActionPartField, ActionPartActivity, MakeField}
use Rattle.pst_ast.specs.Breaches.{IsLeast}
use Rattle.pst_type_rules.specs.TypeRules.{TypeBreach}

abbrev pub on : ℕ → ℕ → Place
on line column = record { file = 0; line = line; column = column }

abbrev pub name : ℕ → Place → Name
name id place = record { id = record { 0 = id }; place = place }

abbrev pub number : ℕ → Place → ExprTree
number n place = ExprUnary (UnaryPrimary (PrimaryNumber (record { value = pos n; place = place })))

abbrev pub end : Token
end = record { kind = kind.End; name = record { 0 = 0 }; number = pos 0; place = on 9 1 }

-- component pss_top { .. }, on a line
abbrev pub component_with : ℕ → List ComponentPartTree → UnitTree
component_with line parts = MakeUnit (ItemComponent (MakeComponent (on line 1) (name 0 (on line 11)) (on line 19) parts (on 8 1)) ∷ []) end

-- component pss_top { action A { rand .. } } on one line
abbrev pub action_with_field : TypeTree → PartTree → Place → UnitTree
action_with_field type part semicolon =
    component_with 1 (ComponentPartAction (MakeAction None (on 1 21) (name 1 (on 1 28)) None (on 1 30) (ActionPartField (MakeField (on 1 32) type part [] semicolon) ∷ []) (on 1 80)) ∷ [])

-- bit[n], whose width stands at column 41
abbrev pub bits : ℕ → ℕ → PlainTree
bits n close = PlainBit (on 1 37) (Some (MakeWidth (on 1 40) (number n (on 1 41)) None (on 1 close)))

-- component pss_top { action A { rand bit[64] x; } }
abbrev pub wide : UnitTree
wide = action_with_field (TypePlain (bits 64 43) None) (MakePart (name 2 (on 1 45)) NoIndex) (on 1 46)

-- component pss_top { action A { rand bit[4] in [3..1] x; } }
abbrev pub reversed : UnitTree
reversed =
    action_with_field
    (TypePlain (bits 4 42) (Some (MakeDomain (on 1 44) (on 1 47) (MakeRanges (RangeBetween (number 3 (on 1 48)) (on 1 49) (number 1 (on 1 51))) NoNextRangeRow) (on 1 52))))
    (MakePart (name 2 (on 1 54)) NoIndex) (on 1 55)

-- component pss_top { action A { rand bit[4] a[65]; } }
abbrev pub long : UnitTree
long = action_with_field (TypePlain (bits 4 42) None) (MakePart (name 2 (on 1 44)) (SomeIndex (MakeIndex (on 1 45) (number 65 (on 1 46)) (on 1 48)))) (on 1 49)

-- do A;
abbrev pub do_action : ℕ → ℕ → ℕ → CoreTree
do_action line column id = CoreDo (on line column) (record { first = name id (on line (column + 3)); second = None }) (WithNothing (on line (column + 4)))

-- component pss_top {
--   action A { } action B { } action C { }
--   action entry { activity { parallel join_select (3) { x: do A; do B; } do C; } }
-- }
abbrev pub joined : UnitTree
joined =
    component_with 1
    (ComponentPartAction (MakeAction None (on 2 3) (name 1 (on 2 10)) None (on 2 12) [] (on 2 14))
    ∷ ComponentPartAction (MakeAction None (on 2 16) (name 2 (on 2 23)) None (on 2 25) [] (on 2 27))
    ∷ ComponentPartAction (MakeAction None (on 2 29) (name 3 (on 2 36)) None (on 2 38) [] (on 2 40))
    ∷ ComponentPartAction (MakeAction None (on 3 3) (name 4 (on 3 10)) None (on 3 16)
    (ActionPartActivity (MakeActivity (on 3 18) (on 3 27)
    (StatementPlain (CoreTogether word.Parallel (on 3 29) (Some (JoinSelect (on 3 38) (on 3 50) (number 3 (on 3 51)) (on 3 52))) (on 3 54)
    (MoreStatementRow (StatementLabeled (record { name = name 5 (on 3 56); colon = on 3 57 }) (do_action 3 59 1)) (MoreStatementRow (StatementPlain (do_action 3 65 2)) NoStatementRow)) (on 3 71))
    ∷ StatementPlain (do_action 3 73 3) ∷ []) (on 3 79)) ∷ []) (on 3 81))
    ∷ [])

abbrev pub names : List (List ℕ)
names = codes "pss_top" ∷ codes "A" ∷ codes "B" ∷ codes "C" ∷ codes "entry" ∷ codes "x" ∷ []

-- the source breaks the rule at the place
abbrev pub Breaks : UnitTree → Place → ℕ → Type 0
Breaks unit place rule = TypeBreach (unit ∷ []) names place rule

pub record SourcesAreTried : Type 0 where
  -- the least of all breaches
  pub width : IsLeast (TypeBreach (wide ∷ []) names) (on 1 37) 9
  pub range : Breaks reversed (on 1 48) 10
  pub count : Breaks joined (on 3 51) 12
  pub size : Breaks long (on 1 46) 12
