-- Lists of the references and claims that pools serve.
use Rattle.std.specs.Prelude.{ℕ, Bool, false, not, ◌&&◌, List, map}
use Rattle.std.specs.List.{filter, flat_map, enumerate_from}
use Rattle.pst_ast.specs.declared.instance.Instance.{Instance}
use Rattle.pst_ast.specs.declared.scope_declaration.Declaration.{Declaration}
use Rattle.pst_ast.specs.Sorts.{is_action}
use Rattle.pst_type_rules.specs.Members.{those_that}
use Rattle.pst_tree.specs.declared.sites.ActionSite.{ActionSite}
use Rattle.pst_tree.specs.Bases.{with_bases, needs_of}
use Rattle.pst_tree.specs.InheritedFound.{is_concrete_by, compound_from}
use Rattle.pst_bind.specs.Needs.{Need, homes_of}

abbrev pub need_of : ℕ → Declaration → ℕ → ℕ × Declaration → Need
need_of number action instance y = record { number = number; action = action; instance = instance; reference = y.0; need = y.1 }

-- those of an action type in an instance
abbrev pub needs_by : ℕ → Declaration → ℕ → List Declaration → List Need
needs_by number action instance needs = map (need_of number action instance) (enumerate_from 0 needs)

abbrev pub needs_at : ℕ → Declaration → List Declaration → ℕ → List Need
needs_at number action needs instance = needs_by number action instance needs

-- those of an action type in each instance of its component
abbrev pub added_by : List Declaration → List Instance → ℕ → Declaration → List Need
added_by ds instances number action = flat_map (needs_at number action (needs_of ds action)) (homes_of ds instances action)

-- the action type is atomic and not abstract, by what actions do themselves
abbrev pub is_performed_by : List ActionSite → List Declaration → Declaration → Bool
is_performed_by sites ds action = is_concrete_by sites action && not (compound_from sites false (with_bases ds action))

-- those of numbered action types
abbrev pub needs_from : List ActionSite → List Declaration → List Instance → List (ℕ × Declaration) → List Need
needs_from sites ds instances numbered = flat_map (λ (x : ℕ × Declaration). added_by ds instances x.0 x.1) (filter (λ (x : ℕ × Declaration). is_performed_by sites ds x.1) numbered)

abbrev pub needs_found : List ActionSite → List Declaration → List Instance → List Need
needs_found sites ds instances = needs_from sites ds instances (enumerate_from 0 (those_that is_action ds))
