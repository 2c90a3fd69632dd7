-- Laws between the bases and members of types by the rules and those that are found.
use Rattle.std.specs.Prelude.{◌≡◌, ◌↔◌, ℕ, List}
use Rattle.std.specs.List.{Contains}
use Rattle.pst_ast.specs.DeclarationTree.{UnitTree}
use Rattle.pst_ast.specs.Breaches.{IsNone}
use Rattle.pst_ast.specs.declared.scope_declaration.Declaration.{Declaration}
use Rattle.pst_ast.specs.Declarations.{declarations}
use Rattle.pst_ast.specs.NameRules.{NameBreach}
use Rattle.pst_type_rules.specs.Members.{AreMembers, IsOrDerives}
use Rattle.pst_tree.specs.Bases.{with_bases, members}

-- where no rule of names is broken, a declared type is derived from just those that are found as its bases, and from itself
abbrev pub BasesAreListed : Type 0
BasesAreListed =
    (units : List UnitTree) (names : List (List ℕ)) (d base : Declaration) → IsNone (NameBreach units names) → Contains (declarations units) d
    → IsOrDerives (declarations units) d base ↔ Contains (with_bases (declarations units) d) base

-- and has just the members that are found, with those of its bases
abbrev pub MembersAreListed : Type 0
MembersAreListed =
    (units : List UnitTree) (names : List (List ℕ)) (d : Declaration) (list : List Declaration) → IsNone (NameBreach units names) → Contains (declarations units) d
    → AreMembers (declarations units) d list ↔ (members (declarations units) d ≡ list)
