-- Constraints that are looked at.
use Rattle.std.proofs.Common.{◌≡◌, ℕ, List, [], ◌++◌, map, Contains, Bool, true, false, if◌then◌else◌, ◌&&◌, Option, Some, sym, subst}
use Rattle.std.specs.Prelude.{slice_get, flat_map}
use Rattle.std.specs.List.{enumerate_from, list_any}
use Rattle.std.proofs.lemmas.Bool.{false≢true}
use Rattle.pst_model.specs.declared.action.Claim.{Claim}
use Rattle.pst_model.specs.ConstraintTree.{SlotTree, ConstraintTree}
use Rattle.pst_model.specs.ModelTree.{ModelTree, ActionTree, ObjectTree}
use Rattle.pst_scen.specs.declared.act.Act.{Act}
use Rattle.pst_scen.specs.declared.act.Filled.{Filled}
use Rattle.pst_scen.specs.declared.scenario.Scenario.{Scenario}
use Rattle.pst_legal.specs.Types.{type_of, pool_object, is_output}
use Rattle.pst_legal.specs.Blanks.{claims_of}
use Rattle.pst_legal.specs.Standing.{Standing}
use Rattle.pst_legal.specs.Slots.{act_slot, output_slot, resource_slot}
use Rattle.pst_legal.specs.Constraints.{is_refused_at}
use Rattle.pst_built.proofs.Members.{In, none_any, to_left, to_right, to_map, to_flat_map, to_numbered}
use Rattle.pst_slots.specs.Listed.{Stating, stating, action_constraints, object_constraints, of_output, of_claim, of_act}
use Rattle.pst_slots.proofs.Listed.{in_contains}
use Rattle.pst_refusals.specs.Failing.{fails}

pub second : (a b : Bool) → a ≡ true → (a && b) ≡ false → b ≡ false
second true b e none = none
second false b e none = absurd (false≢true e)

-- a constraint of a list that is looked through isn't refused
pub passed : (xs : List Stating) (standing : SlotTree → Standing) (k : ConstraintTree) → list_any (fails false) xs ≡ false → In (stating standing k) xs → is_refused_at k standing ≡ false
passed xs standing k none has = none_any (fails false) xs (stating standing k) none has

pub of_type_in : (m : ModelTree) (standing : SlotTree → Standing) (action : ℕ) (type : ActionTree) (k : ConstraintTree) → type_of m action ≡ Some type → Contains type.constraints k → In (stating standing k) (map (stating standing) (action_constraints (type_of m action)))
of_type_in m standing action type k of has =
    subst (λ t. In (stating standing k) (map (stating standing) (action_constraints t))) (sym of) (to_map (stating standing) type.constraints k (in_contains type.constraints k has))

pub of_object_in : (standing : SlotTree → Standing) (o : Option ObjectTree) (object : ObjectTree) (k : ConstraintTree) → o ≡ Some object → Contains object.constraints k → In (stating standing k) (map (stating standing) (object_constraints o))
of_object_in standing o object k of has =
    subst (λ t. In (stating standing k) (map (stating standing) (object_constraints t))) (sym of) (to_map (stating standing) object.constraints k (in_contains object.constraints k has))

-- ---- an action that is looked at

module _ (m : ModelTree) (u : Scenario) (act : Act) where
  abbrev own : List Stating
  own = map (stating (act_slot m u 0 act)) (action_constraints (type_of m act.action))

  abbrev outputs : List Stating
  outputs = flat_map (of_output m u 0) (enumerate_from 0 act.references)

  abbrev claimed : List Stating
  claimed = flat_map (of_claim m 0 act) (enumerate_from 0 (claims_of (type_of m act.action)))

  pub own_in : (type : ActionTree) (k : ConstraintTree) → type_of m act.action ≡ Some type → Contains type.constraints k → In (stating (act_slot m u 0 act) k) (of_act m u (0, act))
  own_in type k of has = to_left own (outputs ++ claimed) (stating (act_slot m u 0 act) k) (of_type_in m (act_slot m u 0 act) act.action type k of has)

  pub output_in : (r : ℕ) (filled : Filled) (object : ObjectTree) (k : ConstraintTree) → slice_get act.references r ≡ Some filled → is_output filled.flow ≡ true → pool_object m filled.pool ≡ Some object → Contains object.constraints k
      → In (stating (output_slot m u 0 r filled) k) (of_act m u (0, act))
  output_in r filled object k at output of has =
      let one = stating (output_slot m u 0 r filled) k in
      let all = of_object_in (output_slot m u 0 r filled) (pool_object m filled.pool) object k of has in
      let inside : In one (of_output m u 0 (r, filled)) = subst (λ b. In one (if b then map (stating (output_slot m u 0 r filled)) (object_constraints (pool_object m filled.pool)) else [])) (sym output) all in
      to_right own (outputs ++ claimed) one (to_left outputs claimed one (to_flat_map (of_output m u 0) (enumerate_from 0 act.references) (r, filled) one (to_numbered act.references r filled at) inside))

  pub claim_in : (c : ℕ) (type : ActionTree) (claim : Claim) (object : ObjectTree) (k : ConstraintTree) → type_of m act.action ≡ Some type → slice_get type.claims c ≡ Some claim → slice_get m.objects claim.object ≡ Some object → Contains object.constraints k
      → In (stating (resource_slot m 0 act c) k) (of_act m u (0, act))
  claim_in c type claim object k typed at of has =
      let one = stating (resource_slot m 0 act c) k in
      let inside : In one (of_claim m 0 act (c, claim)) = of_object_in (resource_slot m 0 act c) (slice_get m.objects claim.object) object k of has in
      let all : In one claimed = subst (λ t. In one (flat_map (of_claim m 0 act) (enumerate_from 0 (claims_of t)))) (sym typed) (to_flat_map (of_claim m 0 act) (enumerate_from 0 type.claims) (c, claim) one (to_numbered type.claims c claim at) inside) in
      to_right own (outputs ++ claimed) one (to_right outputs claimed one all)
