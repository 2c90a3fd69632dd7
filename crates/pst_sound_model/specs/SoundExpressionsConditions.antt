-- What the places of the tokens of sources give: they rise, so no two tokens stand at one place.
use Rattle.std.specs.Prelude.{◌≡◌, true, false, List}
use Rattle.std.specs.List.{Contains}
use Rattle.pst_ast.specs.declared.scope_declaration.Declaration.{Declaration}
use Rattle.pst_ast.specs.declared.scope_declaration.Scope.TheVariants.{Part}
use Rattle.pst_terms.specs.Readings.{is_inner_sort}

-- Names are declared at places of their own.
pub record HaveOwnPlaces (ds : List Declaration) : Type 0 where
  -- no two are declared at one place
  pub places : (d e : Declaration) → Contains ds d → Contains ds e → d.name.place ≡ e.name.place → d ≡ e
  -- the scope of a local, or of an index, isn't that of anything else that is declared
  pub scopes : (d e : Declaration) → Contains ds d → Contains ds e → is_inner_sort d.sort ≡ true → is_inner_sort e.sort ≡ false → d.scope ≡ Part e.name.place → ⊥
