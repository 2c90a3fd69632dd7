-- What types lead to.
use Rattle.std.specs.Prelude.{◌≡◌, ◌+◌, ℕ, List, Some, slice_get}
use Rattle.pst_base.specs.declared.position.Place.{Place}
use Rattle.pst_ast.specs.declared.scope_declaration.Declaration.{Declaration}
use Rattle.pst_marked_bases.specs.declared.leads.Lead.{Lead}
use Rattle.pst_marked_bases.specs.Marked.{marked_within}

-- From a type so many steps up stands what it leads to, and nothing on the way is marked.
pub record IsLead (places : List Place) (ds : List Declaration) (row : Lead) : Type 0 where
  pub same : (k : ℕ) → marked_within places ds (row.steps + k) (Some row.owner) ≡ marked_within places ds k row.base

abbrev pub AreLeads : List Place → List Declaration → List Lead → Type 0
AreLeads places ds rows = (k : ℕ) (row : Lead) → slice_get rows k ≡ Some row → IsLead places ds row
