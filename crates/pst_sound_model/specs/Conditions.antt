-- What the places of the tokens of sources give: they rise, so no two tokens stand at one place.
use Rattle.std.specs.Prelude.{◌≡◌, ℕ, List, slice_get, Some}
use Rattle.pst_ast.specs.declared.scope_declaration.Declaration.{Declaration}

-- each of some declarations stands at a place of its own
abbrev pub StandApart : List Declaration → Type 0
StandApart ds = (j k : ℕ) (d e : Declaration) → slice_get ds j ≡ Some d → slice_get ds k ≡ Some e → d.name.place ≡ e.name.place → j ≡ k
