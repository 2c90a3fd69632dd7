-- The rules of types where activities and bodies are inherited, and where a body assigns to a handle:
--    1  component pss_top {
--    2    action B { activity { } activity { } }
--    3    action A : B { }
--    4    action C : B { exec body { } }
--    5    action T { B h; exec body { h = 1; } }
--       }
use Rattle.std.specs.Prelude.{ℕ, List, [], ◌∷◌, Some, None, codes}
use Rattle.pst_ast.specs.BodyTree.{BodyTree, BodyStatementTree, BodyStatementAssign, SourceExpr, MakeBody}
use Rattle.pst_ast.specs.DeclarationTree.{UnitTree, ComponentPartTree, ComponentPartAction, MakeAction, ActionPartTree, ActionPartBody}
use Rattle.pst_ast.specs.declared.scope_declaration.Declaration.{Declaration}
use Rattle.pst_ast.specs.Declarations.{action_declared}
use Rattle.pst_type_rules.specs.Members.{IsTwofold}
use Rattle.pst_type_rules.specs.TypeRules.{TypeBreach}
use Rattle.pst_type_rules.specs.Tried.{on, name, number, component_with}
use Rattle.pst_type_rules.specs.TriedRules.{mark, type, action}
use Rattle.pst_type_rules.specs.TriedMore.{handle, activity}

-- exec body { .. }
abbrev pub body : List BodyStatementTree → BodyTree
body statements = MakeBody mark mark mark statements mark

-- an action that is derived from B
abbrev pub derived : ℕ → ℕ → List ActionPartTree → ComponentPartTree
derived id line parts = ComponentPartAction (MakeAction None mark (name id (on line 10)) (Some (record { colon = mark; name = type 1 line 14 })) mark parts mark)

-- h = 1;
abbrev pub assigned : BodyStatementTree
assigned = BodyStatementAssign (name 5 (on 5 31)) mark (SourceExpr (number 1 (on 5 35))) mark

abbrev pub parts : List ComponentPartTree
parts =
    action 1 2 10 (activity [] ∷ activity [] ∷ [])
    ∷ derived 2 3 []
    ∷ derived 3 4 (ActionPartBody (body []) ∷ [])
    ∷ action 4 5 10 (handle 1 5 5 16 ∷ ActionPartBody (body (assigned ∷ [])) ∷ [])
    ∷ []

abbrev pub source : UnitTree
source = component_with 1 parts

abbrev pub names : List (List ℕ)
names = codes "pss_top" ∷ codes "B" ∷ codes "A" ∷ codes "C" ∷ codes "T" ∷ codes "h" ∷ []

-- the action C
abbrev pub replacing : Declaration
replacing = action_declared (on 1 11) (Some (record { colon = mark; name = type 1 4 14 })) (name 3 (on 4 10))

abbrev pub Breaks : ℕ → ℕ → ℕ → Type 0
Breaks line column rule = TypeBreach (source ∷ []) names (on line column) rule

pub record PartsAreTried : Type 0 where
  -- two activities, and the same inherited
  pub twice : Breaks 2 10 16
  pub inherited_twice : Breaks 3 10 16
  -- a body in place of what the base has
  pub replaced : IsTwofold (source ∷ []) replacing → ⊥
  -- a body assigns to a handle that no activity traverses: that breaks the rule of handles, and that of assignments too
  pub assigned_handle : Breaks 5 31 18
  pub no_local : Breaks 5 31 21
