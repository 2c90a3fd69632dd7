-- The first names of paths, one after another.
use Rattle.std.specs.Prelude.{List, ◌++◌}
use Rattle.std.specs.Option.{option_to_list}
use Rattle.pst_ast.specs.declared.leaf.Name.{Name}
use Rattle.pst_ast.specs.Uses.{Use}
use Rattle.pst_type_rules.specs.Handles.{first_of_path}

-- the names so far, and that of a further use
abbrev pub with_first : List Name → Use → List Name
with_first names u = names ++ option_to_list (first_of_path u)
