-- Where a declaration stands among others.
use Rattle.std.specs.Prelude.{◌≡◌, List, length}
use Rattle.pst_ast.specs.declared.scope_declaration.Declaration.{Declaration}
use Rattle.pst_tree.specs.Bases
use Rattle.pst_type_members.specs.declared.among.Among.{Among}

pub record IsAmong (list : List Declaration) (d : Declaration) (a : Among) : Type 0 where
  pub number : a.number ≡ Bases.number_in list d
  pub count : a.count ≡ length list
