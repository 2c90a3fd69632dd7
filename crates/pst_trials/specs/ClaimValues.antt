-- The number of a claimed resource instance, and the values of its fields.
use Rattle.std.specs.Prelude.{◌≡◌, ℕ, ℤ, pos, List, [], ◌∷◌, true, Some, None}
use Rattle.pst_expr.specs.declared.tree.BinaryOp.TheVariants.{Equal, Add, Greater}
use Rattle.pst_expr.specs.Tree.{Variable}
use Rattle.pst_model.specs.declared.object.ObjectKind.TheVariants.{Resource}
use Rattle.pst_model.specs.ConstraintTree.{ConstraintTree, Own, ClaimId, ClaimField, Id}
use Rattle.pst_model.specs.ModelTree.{ModelTree, ObjectTree}
use Rattle.pst_scen.specs.declared.tree.Fill.TheVariants as fill
use Rattle.pst_scen.specs.declared.act.Act.{Act}
use Rattle.pst_scen.specs.declared.scenario.Scenario.{Scenario}
use Rattle.pst_legal.specs.Blanks.{Instance, OfClaim as OfClaimBlank}
use Rattle.pst_legal.specs.Standing.{Known, Lacking, Open}
use Rattle.pst_legal.specs.Slots.{act_slot, resource_slot}
use Rattle.pst_legal.specs.Constraints.{HasConstraint, value_at}
use Rattle.pst_legal.specs.First.{IsLive}
use Rattle.pst_legal.specs.ValueReading.{Whole, read}
use Rattle.pst_trials.specs.Parts.{name, span, field_to, atomic, top, pool_of, serve, claim, number, by, constraint, act_claims, scenario_of, places}

-- f == instance_id + 5
abbrev pub five_more : ConstraintTree
five_more = constraint (by Equal (Variable 0) (by Add (Variable 1) (number 5))) (Own 0 ∷ Id ∷ [])

-- k.instance_id == 1
abbrev pub is_second : ConstraintTree
is_second = constraint (by Equal (Variable 0) (number 1)) (ClaimId 0 ∷ [])

-- k.f > 5
abbrev pub above_five : ConstraintTree
above_five = constraint (by Greater (Variable 0) (number 5)) (ClaimField 0 0 ∷ [])

-- resource r_t { rand bit[4] f; constraint f == instance_id + 5; }
abbrev pub resource : ObjectTree
resource = record { name = name 1; kind = Resource; fields = field_to 15 ∷ []; constraints = five_more ∷ [] }

-- component pss_top { pool [2] r_t r; bind r *; action entry { lock r_t k; constraint { k.instance_id == 1; k.f > 5; } } }
abbrev pub model : ModelTree
model = record {
  actions = record (atomic [] (claim true 0 ∷ [])) { constraints = is_second ∷ above_five ∷ [] } ∷ [];
  objects = resource ∷ [];
  instances = top;
  pools = pool_of 2 ∷ [];
  functions = [];
  served = serve 0 0 ∷ [];
}

-- the claim of an instance, with its field's value where that is read
abbrev pub act : ℕ → List ℤ → Act
act instance values = act_claims 0 (Some 0) (record { pool = 0; lock = true; instance = instance; values = values } ∷ [])

abbrev pub scenario_with : Act → Scenario
scenario_with a = scenario_of 0 (record { parent = None; fill = fill.Leaf 0 } ∷ []) (a ∷ []) []

abbrev pub filling : Scenario
filling = scenario_with (act 1 (pos 6 ∷ []))

-- nothing of the claim is read
abbrev pub unread : Act
unread = act_claims 0 (Some 0) []

pub record ClaimValuesAreTried : Type 0 where
  -- The words of seed 1 at places 1 and 2 leave 1 and 0 at 2 and 16 options.
  pub reads : read model 0 1 0 (0 ∷ 0 ∷ 6 ∷ []) ≡ Whole filling
  pub options : places model 0 1 0 (0 ∷ 0 ∷ 6 ∷ []) ≡ Some 1 ∷ Some 2 ∷ Some 16 ∷ []
  -- what the slots stand for, before the claim is read, before its value is, and then
  pub instance_open : act_slot model (scenario_with unread) 0 unread (ClaimId 0) ≡ Open (Instance 0 0) (span 0 1)
  pub field_open : act_slot model (scenario_with unread) 0 unread (ClaimField 0 0) ≡ Open (OfClaimBlank 0 0 0) (span 0 15)
  pub own_open : resource_slot model 0 unread 0 Id ≡ Open (Instance 0 0) (span 0 1)
  pub instance_known : act_slot model (scenario_with (act 1 [])) 0 (act 1 []) (ClaimId 0) ≡ Known (pos 1)
  pub field_still_open : resource_slot model 0 (act 1 []) 0 (Own 0) ≡ Open (OfClaimBlank 0 0 0) (span 0 15)
  pub own_known : resource_slot model 0 (act 1 (pos 6 ∷ [])) 0 Id ≡ Known (pos 1)
  pub field_known : act_slot model filling 0 (act 1 (pos 6 ∷ [])) (ClaimField 0 0) ≡ Known (pos 6)
  pub no_second_claim : act_slot model filling 0 (act 1 (pos 6 ∷ [])) (ClaimId 1) ≡ Lacking
  -- the resource's constraint is there before the claim is read
  pub has_unread : HasConstraint model (scenario_with unread) five_more (resource_slot model 0 unread 0)
  pub has : HasConstraint model filling five_more (resource_slot model 0 (act 1 (pos 6 ∷ [])) 0)
  pub six : value_at five_more (resource_slot model 0 (act 1 (pos 6 ∷ [])) 0) ≡ Some (pos 1)
  pub seven : value_at five_more (resource_slot model 0 (act 1 (pos 7 ∷ [])) 0) ≡ Some (pos 0)
  pub second : value_at is_second (act_slot model filling 0 (act 1 (pos 6 ∷ []))) ≡ Some (pos 1)
  pub above : value_at above_five (act_slot model filling 0 (act 1 (pos 6 ∷ []))) ≡ Some (pos 1)
  -- the claim of instance 0 is refused before its value is read, that of instance 1 is not
  pub first_is_refused : IsLive model 0 1 0 (0 ∷ 1 ∷ []) → ⊥
  pub second_is_live : IsLive model 0 1 0 (0 ∷ 0 ∷ [])
