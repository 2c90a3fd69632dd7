-- Whether an expression names enum items alone.
use Rattle.std.specs.Prelude.{ℕ, List, Bool, true, false, ◌&&◌, Option, is_some}
use Rattle.std.specs.List.{fold}
use Rattle.pst_ast.specs.declared.scope_declaration.Declaration.{Declaration}
use Rattle.pst_ast.specs.Uses.{Use}
use Rattle.pst_type_rules.specs.Constants.{item_of_use}

-- what the sources declare and the texts of names, and whether the uses so far are items alone
pub record Named : Type 0 where
  pub ds : List Declaration
  pub names : List (List ℕ)
  pub only : Bool

-- a further use that names this item, or none
abbrev pub with_found : Named → Option Declaration → Named
with_found so_far item = record so_far { only = is_some item && so_far.only }

-- a further use
abbrev pub named : Named → Use → Named
named so_far u = with_found so_far (item_of_use so_far.ds so_far.names u)

-- each of some uses names an item
unfoldable pub are_items : List Declaration → List (List ℕ) → List Use → Bool
are_items ds names us = (fold named (record { ds = ds; names = names; only = true }) us).only
