-- Constraints of actions, of what they write and claim, and of first objects.
use Rattle.std.proofs.Common.{◌≡◌, ◌⊎◌, ℕ, List, Contains, true, false, Some, ap, ◌∙◌, inl, inr}
use Rattle.std.specs.Prelude.{slice_get}
use Rattle.std.specs.List.{list_any}
use Rattle.std.specs.Option.{option_and_then}
use Rattle.std.proofs.lemmas.Bool.{or_parts}
use Rattle.pst_model.specs.declared.action.Claim.{Claim}
use Rattle.pst_model.specs.ConstraintTree.{ConstraintTree}
use Rattle.pst_model.specs.ModelTree.{ModelTree, ActionTree, ObjectTree}
use Rattle.pst_scen.specs.declared.act.Act.{Act}
use Rattle.pst_scen.specs.declared.act.Filled.{Filled}
use Rattle.pst_scen.specs.declared.scenario.Scenario.{Scenario}
use Rattle.pst_legal.specs.Types.{type_of, pool_object, is_output, is_state_pool}
use Rattle.pst_legal.specs.Slots.{act_slot, output_slot, resource_slot, first_object_slot}
use Rattle.pst_legal.specs.Constraints.{OfAct, OfOutput, OfClaim, OfFirst, is_refused_at}
use Rattle.pst_legal.specs.First.{NoneRefused}
use Rattle.pst_built.proofs.Members.{in_get, none_any}
use Rattle.pst_slots.specs.Listed.{of_act, of_first_object}
use Rattle.pst_refusals.specs.Failing.{fails}
use Rattle.pst_new_refusals.specs.Since.{IsUnread, IsFresh, IsSince}
use Rattle.pst_new_refusals.specs.Newly.{so_far, is_pool_refused, is_act_refused}
use Rattle.pst_new_refusals.proofs.Same.{same_act, same_output, same_first_object, same_resource, refused_same}
use Rattle.pst_new_refusals.proofs.Passed.{second, passed, of_object_in, own_in, output_in, claim_in}

module _ (m : ModelTree) (s t : Scenario) (from : ℕ) (fresh : List Act) (since : IsSince s t from fresh) (none : NoneRefused m s)
    (acts : List Act) (unread : IsUnread (so_far t.nodes acts))
    (free : list_any (is_act_refused m (so_far t.nodes acts)) fresh ≡ false) where
  abbrev u : Scenario
  u = so_far t.nodes acts

  act_passed : (act : Act) → IsFresh fresh act → (list_any (fails false) (of_act m u (0, act)) ≡ false) × (list_any (is_pool_refused m u) act.references ≡ false)
  act_passed act is = or_parts (list_any (fails false) (of_act m u (0, act))) (list_any (is_pool_refused m u) act.references) (none_any (is_act_refused m u) fresh act free (in_get fresh is.0 act is.1))

  pub by_act : (a : ℕ) (act : Act) (type : ActionTree) (k : ConstraintTree) → type_of m act.action ≡ Some type → Contains type.constraints k → (slice_get s.actions a ≡ Some act) ⊎ IsFresh fresh act → is_refused_at k (act_slot m t a act) ≡ false
  by_act a act type k of has (inl old) =
      refused_same k (act_slot m t a act) (act_slot m s a act) (λ slot. same_act m t s since.new since.old a a act slot) (none k (act_slot m s a act) (OfAct a act type k (record { is = old; of_type = of }) has))
  by_act a act type k of has (inr is) =
      refused_same k (act_slot m t a act) (act_slot m u 0 act) (λ slot. same_act m t u since.new unread a 0 act slot)
      (passed (of_act m u (0, act)) (act_slot m u 0 act) k (act_passed act is).0 (own_in m u act type k of has))

  pub by_output : (a r : ℕ) (act : Act) (filled : Filled) (object : ObjectTree) (k : ConstraintTree) → slice_get act.references r ≡ Some filled → is_output filled.flow ≡ true → pool_object m filled.pool ≡ Some object → Contains object.constraints k
      → (slice_get s.actions a ≡ Some act) ⊎ IsFresh fresh act → is_refused_at k (output_slot m t a r filled) ≡ false
  by_output a r act filled object k at output of has (inl old) =
      refused_same k (output_slot m t a r filled) (output_slot m s a r filled) (λ slot. same_output m t s since.new since.old a a r filled slot)
      (none k (output_slot m s a r filled) (OfOutput a r filled object k (ap (option_and_then (λ (x : Act). slice_get x.references r)) old ∙ at) output of has))
  by_output a r act filled object k at output of has (inr is) =
      refused_same k (output_slot m t a r filled) (output_slot m u 0 r filled) (λ slot. same_output m t u since.new unread a 0 r filled slot)
      (passed (of_act m u (0, act)) (output_slot m u 0 r filled) k (act_passed act is).0 (output_in m u act r filled object k at output of has))

  pub by_claim : (a c : ℕ) (act : Act) (type : ActionTree) (claim : Claim) (object : ObjectTree) (k : ConstraintTree) → type_of m act.action ≡ Some type → slice_get type.claims c ≡ Some claim → slice_get m.objects claim.object ≡ Some object → Contains object.constraints k
      → (slice_get s.actions a ≡ Some act) ⊎ IsFresh fresh act → is_refused_at k (resource_slot m a act c) ≡ false
  by_claim a c act type claim object k typed at of has (inl old) = none k (resource_slot m a act c) (OfClaim a c act type claim object k (record { is = old; of_type = typed }) at of has)
  by_claim a c act type claim object k typed at of has (inr is) =
      refused_same k (resource_slot m a act c) (resource_slot m 0 act c) (λ slot. same_resource m a 0 act c slot)
      (passed (of_act m u (0, act)) (resource_slot m 0 act c) k (act_passed act is).0 (claim_in m u act c type claim object k typed at of has))

  pub by_first : (a r : ℕ) (act : Act) (filled : Filled) (object : ObjectTree) (k : ConstraintTree) → slice_get act.references r ≡ Some filled → is_state_pool m filled.pool ≡ true → pool_object m filled.pool ≡ Some object → Contains object.constraints k
      → (slice_get s.actions a ≡ Some act) ⊎ IsFresh fresh act → is_refused_at k (first_object_slot m t filled.pool) ≡ false
  by_first a r act filled object k at state of has (inl old) =
      refused_same k (first_object_slot m t filled.pool) (first_object_slot m s filled.pool) (λ slot. same_first_object m t s since.new since.old filled.pool slot)
      (none k (first_object_slot m s filled.pool) (OfFirst a r filled object k (ap (option_and_then (λ (x : Act). slice_get x.references r)) old ∙ at) state of has))
  by_first a r act filled object k at state of has (inr is) =
      let pool = none_any (is_pool_refused m u) act.references filled (act_passed act is).1 (in_get act.references r filled at) in
      let free_pool = second (is_state_pool m filled.pool) (list_any (fails false) (of_first_object m u filled.pool)) state pool in
      refused_same k (first_object_slot m t filled.pool) (first_object_slot m u filled.pool) (λ slot. same_first_object m t u since.new unread filled.pool slot)
      (passed (of_first_object m u filled.pool) (first_object_slot m u filled.pool) k free_pool (of_object_in (first_object_slot m u filled.pool) (pool_object m filled.pool) object k of has))
