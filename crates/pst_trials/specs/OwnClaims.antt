-- One action with two claims of one resource instance.
use Rattle.std.specs.Prelude.{◌≡◌, ℕ, List, [], ◌∷◌, Bool, true, false, Some}
use Rattle.pst_model.specs.declared.object.ObjectKind.TheVariants.{Resource}
use Rattle.pst_model.specs.ModelTree.{ModelTree}
use Rattle.pst_scen.specs.declared.tree.Fill.TheVariants as fill
use Rattle.pst_scen.specs.declared.scenario.Scenario.{Scenario}
use Rattle.pst_scen.specs.Plans.{ClashesAlone}
use Rattle.pst_legal.specs.Legal.{Legal}
use Rattle.pst_legal.specs.ValueReading.{Whole, read}
use Rattle.pst_trials.specs.Parts.{bare, atomic, compound, top, pool_of, serve, traverse, claim, act_claims, claimed, root_node, node, scenario_of}

-- action D { lock r_t k, j; }, or share for lock
abbrev pub model : Bool → ModelTree
model locks = record {
  actions = atomic [] (claim locks 0 ∷ claim locks 0 ∷ []) ∷ compound [] (traverse 0 ∷ []) [] ∷ [];
  objects = bare Resource ∷ [];
  instances = top;
  pools = pool_of 1 ∷ [];
  functions = [];
  served = serve 0 0 ∷ serve 0 1 ∷ [];
}

abbrev pub scenario : Bool → Scenario
scenario locks = scenario_of 0 (root_node 1 [] ∷ node 0 (fill.Leaf 0) ∷ []) (act_claims 0 (Some 1) (claimed locks 0 ∷ claimed locks 0 ∷ []) ∷ []) []

abbrev pub choices : List ℕ
choices = 0 ∷ 0 ∷ 0 ∷ 0 ∷ []

pub record OwnClaimsAreTried : Type 0 where
  pub reads_locks : read (model true) 1 1 0 choices ≡ Whole (scenario true)
  pub reads_shares : read (model false) 1 1 0 choices ≡ Whole (scenario false)
  pub locks_clash : ClashesAlone (scenario true) 0
  pub shares_agree : ClashesAlone (scenario false) 0 → ⊥
  pub locks_are_illegal : Legal (model true) 1 (scenario true) → ⊥
  pub shares_are_legal : Legal (model false) 1 (scenario false)
