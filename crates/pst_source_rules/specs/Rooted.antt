-- Roots, part by part.
use Rattle.std.specs.Prelude.{ℕ, Bool, false, ◌&&◌, List}
use Rattle.std.specs.List.{list_any}
use Rattle.std.specs.Option.{option_map_or, option_and_then}
use Rattle.pst_ast.specs.declared.instance.Instance.{Instance}
use Rattle.pst_ast.specs.declared.scope_declaration.Declaration.{Declaration}
use Rattle.pst_ast.specs.Lookups.{declared_at, is_text}
use Rattle.pst_bind.specs.Needs.{is_home}

abbrev pub has_home_in : List Declaration → List Instance → Declaration → Bool
has_home_in ds instances action = list_any (is_home ds action) instances

abbrev pub is_named_root : List Declaration → List (List ℕ) → List ℕ → List ℕ → Declaration → Bool
is_named_root ds names component action d = option_map_or (λ c. is_text names component c.name.id && is_text names action d.name.id) (option_and_then (declared_at ds) d.inside) false
