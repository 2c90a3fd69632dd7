-- The names of what a model holds, as they are printed.
use Rattle.std.specs.Prelude.{ℕ, List, [], ◌∷◌, ◌++◌, get_or, codes, decimal, Option, None, Some, slice_get}
use Rattle.std.specs.Option.{option_and_then}
use Rattle.pst_base.specs.declared.table.NameId.{NameId}
use Rattle.pst_model.specs.declared.action.Field.{Field}
use Rattle.pst_model.specs.declared.action.Reference.{Reference}
use Rattle.pst_model.specs.declared.action.Claim.{Claim}
use Rattle.pst_model.specs.declared.model.Part.{Part}
use Rattle.pst_model.specs.declared.model.Pool.{Pool}
use Rattle.pst_model.specs.ModelTree.{ModelTree, ActionTree, ObjectTree}
use Rattle.pst_scen.specs.declared.scenario.Scenario.{Scenario}

-- the text of a name; it and each text below is empty where there is nothing of that number
abbrev pub name : List (List ℕ) → NameId → List ℕ
name names id = get_or names id.0 []

-- ---- component instances

-- the names from the root to an instance, joined by dots, where those of the instances before it are known
abbrev pub parent_path : List (List ℕ) → Option ℕ → List ℕ
parent_path known None = []
parent_path known (Some parent) = get_or known parent [] ++ codes "."

abbrev pub path_of : List (List ℕ) → List (List ℕ) → Part → List ℕ
path_of names known part = parent_path known part.parent ++ name names part.name

abbrev pub paths_from : List (List ℕ) → List (List ℕ) → List Part → List (List ℕ)
paths_from names known [] = known
paths_from names known (part ∷ parts) = paths_from names (known ++ path_of names known part ∷ []) parts

-- the path of each instance
abbrev pub paths : List (List ℕ) → ModelTree → List (List ℕ)
paths names m = paths_from names [] m.instances

-- an instance and the name of a pool in it
abbrev pub pool_text : List (List ℕ) → ModelTree → Option Pool → List ℕ
pool_text names m None = []
pool_text names m (Some pool) = get_or (paths names m) pool.instance [] ++ codes "." ++ name names pool.name

-- ---- types

-- the name of the component and that of the action type
abbrev pub type_text : List (List ℕ) → Option ActionTree → List ℕ
type_text names None = []
type_text names (Some type) = name names type.component ++ codes "::" ++ name names type.name

abbrev pub action_fields : Option ActionTree → List Field
action_fields None = []
action_fields (Some type) = type.fields

abbrev pub object_fields : Option ObjectTree → List Field
object_fields None = []
object_fields (Some type) = type.fields

-- the fields of the objects of a reference, of a claim and of a pool
abbrev pub reference_fields : ModelTree → Option Reference → List Field
reference_fields m None = []
reference_fields m (Some reference) = object_fields (slice_get m.objects reference.object)

abbrev pub claim_fields : ModelTree → Option Claim → List Field
claim_fields m None = []
claim_fields m (Some claim) = object_fields (slice_get m.objects claim.object)

abbrev pub pool_fields : ModelTree → Option Pool → List Field
pool_fields m None = []
pool_fields m (Some pool) = object_fields (slice_get m.objects pool.object)

abbrev pub reference_name : List (List ℕ) → Option Reference → List ℕ
reference_name names None = []
reference_name names (Some reference) = name names reference.name

abbrev pub claim_name : List (List ℕ) → Option Claim → List ℕ
claim_name names None = []
claim_name names (Some claim) = name names claim.name

-- the reference and the claim of that number of an action type
abbrev pub reference_in : Option ActionTree → ℕ → Option Reference
reference_in type reference = option_and_then (λ t. slice_get t.references reference) type

abbrev pub claim_in : Option ActionTree → ℕ → Option Claim
claim_in type claim = option_and_then (λ t. slice_get t.claims claim) type

-- the reference of that number of an action of the scenario
abbrev pub act_reference : ModelTree → Scenario → ℕ → ℕ → Option Reference
act_reference m s act reference = option_and_then (λ a. reference_in (slice_get m.actions a.action) reference) (slice_get s.actions act)
