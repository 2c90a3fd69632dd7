-- What declarations break, loops apart.
use Rattle.std.specs.Prelude.{ℕ, Bool, ◌&&◌, ◌||◌, List, Option, None, if◌then◌else◌}
use Rattle.pst_ast.specs.declared.scope_declaration.Declaration.{Declaration}
use Rattle.pst_ast.specs.declared.referent.Finding.{Finding}
use Rattle.pst_ast.specs.Sorts.{is_object}
use Rattle.pst_ast.specs.NameRules.{finding, is_so, is_declared_before, owner_of, is_in_base, is_word}

-- it is a word of objects, declared in one
abbrev pub is_reserved : List Declaration → List (List ℕ) → Declaration → Bool
is_reserved ds names d = is_so is_object (owner_of ds d) && is_word names d.name.id

-- rule 1, or else rule 7
abbrev pub own_finding : List Declaration → List (List ℕ) → Declaration → Option Finding
own_finding ds names d =
    if is_declared_before ds d then finding d.name.place 1
    else (if is_in_base ds d || is_reserved ds names d then finding d.name.place 7 else None)
