-- What action types have and do with their bases, as it is kept.
use Rattle.std.specs.Prelude.{◌≡◌, ℕ, Bool, true, false, List, Vec, Option, Some, None, length, slice_get}
use Rattle.std.specs.declared.alloc.Global.{Global}
use Rattle.pst_ast.specs.declared.scope_declaration.Declaration.{Declaration}
use Rattle.pst_ast.specs.declared.scope_declaration.Sort.{Sort}
use Rattle.pst_ast.specs.Sorts.{is_claim, is_reference}
use Rattle.pst_tree.specs.declared.sites.ActionSite.{ActionSite}
use Rattle.pst_tree.specs.Bases.{with_bases, references_of, claims_of, needs_of}
use Rattle.pst_tree.specs.InheritedFound.{compound_from}
use Rattle.pst_action_needs.specs.declared.rows.Inherited.{Inherited}
use Rattle.pst_action_needs.specs.declared.rows.NeedSort.{NeedSort}
use Rattle.pst_action_needs.specs.declared.rows.NeedSort.TheVariants as need

abbrev pub is_need_of : NeedSort → Sort → Bool
is_need_of need.Reference s = is_reference s
is_need_of need.Claim s = is_claim s

-- the row tells what its action type has and does with its bases
pub record IsInherited (sites : List ActionSite) (ds : List Declaration) (row : Inherited) : Type 0 where
  pub counted : row.count ≡ length (with_bases ds row.action)
  pub is_compound : row.compound ≡ compound_from sites false (with_bases ds row.action)
  pub has_references : row.references.items ≡ references_of ds row.action
  pub has_claims : row.claims.items ≡ claims_of ds row.action

abbrev pub AreInherited : List ActionSite → List Declaration → List Inherited → Type 0
AreInherited sites ds rows = (k : ℕ) (row : Inherited) → slice_get rows k ≡ Some row → IsInherited sites ds row

-- the references and claims of an atomic action type, and none for a compound one
abbrev pub AreNeeds : List ActionSite → List Declaration → Declaration → Option (Vec Declaration Global) → Type 0
AreNeeds sites ds action None = compound_from sites false (with_bases ds action) ≡ true
AreNeeds sites ds action (Some needs) = (compound_from sites false (with_bases ds action) ≡ false) × (needs.items ≡ needs_of ds action)
