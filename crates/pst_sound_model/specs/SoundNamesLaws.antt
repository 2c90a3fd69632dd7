-- Laws of the definitions: names stand for what is declared by them.
use Rattle.std.specs.Prelude.{◌≡◌, ℕ, List, Some}
use Rattle.std.specs.List.{Contains}
use Rattle.pst_ast.specs.DeclarationTree.{UnitTree}
use Rattle.pst_ast.specs.Breaches.{IsNone}
use Rattle.pst_ast.specs.declared.scope_declaration.Declaration.{Declaration}
use Rattle.pst_ast.specs.Declarations.{declarations}
use Rattle.pst_ast.specs.Lookups.{look_up, member_of}
use Rattle.pst_ast.specs.NameRules.{NameBreach}
use Rattle.pst_tree.specs.Bases.{members}
use Rattle.pst_sound_model.specs.SoundExpressionsConditions.{HaveOwnPlaces}

-- each declaration is what its name stands for in its scope
abbrev pub NamesAreFound : Type 0
NamesAreFound =
    (units : List UnitTree) (names : List (List ℕ)) → HaveOwnPlaces (declarations units) → IsNone (NameBreach units names)
    → (d : Declaration) → Contains (declarations units) d → look_up (declarations units) d.scope d.name.id ≡ Some d

-- each member of a type, with those of its bases, is what its name stands for there
abbrev pub MembersAreFound : Type 0
MembersAreFound =
    (units : List UnitTree) (names : List (List ℕ)) → HaveOwnPlaces (declarations units) → IsNone (NameBreach units names)
    → (type d : Declaration) → Contains (declarations units) type → Contains (members (declarations units) type) d → member_of (declarations units) type d.name.id ≡ Some d
