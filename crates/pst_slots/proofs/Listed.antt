-- The list of a scenario's constraints has all of them and no other.
use Rattle.std.proofs.Common.{◌≡◌, ℕ, zero, suc, ◌+◌, ◌<◌, List, [], ◌∷◌, ◌++◌, map, length, Contains, true, nat_eq, ◌&&◌, if◌then◌else◌, Option, Some, None, refl, sym, ap, ◌∙◌, subst, inl, inr, ⊎_elim, arith}
use Rattle.std.specs.Prelude.{slice_get, flat_map}
use Rattle.std.specs.List.{enumerate_from, list_any, range_with_len}
use Rattle.std.specs.Option.{option_and_then}
use Rattle.std.proofs.lemmas.Option.{slice_get_within, option_and_then_some}
use Rattle.std.proofs.lemmas.Bool.{eqb-true, eq-eqb, and_parts, and_from}
use Rattle.pst_model.specs.declared.model.Pool.{Pool}
use Rattle.pst_model.specs.ConstraintTree.{SlotTree, ConstraintTree}
use Rattle.pst_model.specs.ActivityTree.{StepTree, Traverse, Sequence, Parallel, Schedule, Joined, Select, Repeat, If, Match}
use Rattle.pst_model.specs.ModelTree.{ModelTree, ActionTree, ObjectTree}
use Rattle.pst_scen.specs.declared.tree.Node.{Node}
use Rattle.pst_scen.specs.declared.tree.Fill.{Fill}
use Rattle.pst_scen.specs.declared.tree.Fill.TheVariants as fill
use Rattle.pst_scen.specs.declared.act.Act.{Act}
use Rattle.pst_scen.specs.declared.act.Filled.{Filled}
use Rattle.pst_scen.specs.declared.scenario.Scenario.{Scenario}
use Rattle.pst_scen.specs.Scenarios.{reference_at}
use Rattle.pst_legal.specs.Types.{type_of, pool_object, is_output, is_state_pool}
use Rattle.pst_legal.specs.Blanks.{claims_of, refers_to, used_state_pools}
use Rattle.pst_legal.specs.Standing.{Standing}
use Rattle.pst_legal.specs.Slots.{node_slot, act_slot, inline_slot, output_slot, resource_slot, first_object_slot}
use Rattle.pst_legal.specs.Statements.{StandsFor}
use Rattle.pst_legal.specs.Constraints.{HasConstraint, OfCompound, OfAct, OfOutput, OfClaim, OfFirst, Inline}
use Rattle.pst_built.proofs.Members.{In, in_get, in_if, in_append, to_left, to_right, in_map, to_map, in_flat_map, to_flat_map, in_numbered, to_numbered, in_filter, any_found, any_from, to_filter, to_contains, from_contains}
use Rattle.pst_slots.specs.Stated.{Stated, statement_of}
use Rattle.pst_slots.specs.Listed.{Stating, stating, action_constraints, object_constraints, of_fill, of_step, of_stated, of_node, of_output, of_claim, of_act, of_first_object, constraints_of}

pub in_contains : {A : Type 0} (xs : List A) (x : A) → Contains xs x → In x xs
in_contains xs x c = from_contains xs x c.0 c.1 c.2

-- an element of a list has a place
place : {A : Type 0} (xs : List A) (x : A) → In x xs → (k : ℕ) × (slice_get xs k ≡ Some x)
place [] x has = absurd has
place (y ∷ ys) x (inl e) = (zero, ap Some e)
place (y ∷ ys) x (inr has) = let r = place ys x has in (suc r.0, r.1)

-- a reference of an action, by its action
in_act : {P : Type 0} (acts : List Act) (a r : ℕ) (filled : Filled) → reference_at acts a r ≡ Some filled → ((act : Act) → slice_get acts a ≡ Some act → slice_get act.references r ≡ Some filled → P) → P
in_act acts a r filled e go = option_and_then_some (λ (x : Act). slice_get x.references r) (slice_get acts a) filled e go

from_act : (acts : List Act) (a r : ℕ) (act : Act) (filled : Filled) → slice_get acts a ≡ Some act → slice_get act.references r ≡ Some filled → reference_at acts a r ≡ Some filled
from_act acts a r act filled there has = ap (option_and_then (λ (x : Act). slice_get x.references r)) there ∙ has

-- ---- pools

in_range : (a n k : ℕ) → (i : ℕ) → i < n → k ≡ a + i → In k (range_with_len a n)
in_range a zero k i l e = absurd (omega (arith, l))
in_range a (suc n) k zero l e = inl (omega (arith, e))
in_range a (suc n) k (suc i) l e = inr (in_range (a + 1) n k i (omega (arith, l)) (omega (arith, e)))

pool_there : (m : ModelTree) (pool : ℕ) (object : ObjectTree) → pool_object m pool ≡ Some object → pool < length m.pools
pool_there m pool object e = option_and_then_some (λ (p : Pool). slice_get m.objects p.object) (slice_get m.pools pool) object e (λ p is has. slice_get_within m.pools pool p is)

module _ (m : ModelTree) (s : Scenario) where
  used : (a r : ℕ) (filled : Filled) (object : ObjectTree) → reference_at s.actions a r ≡ Some filled → is_state_pool m filled.pool ≡ true → pool_object m filled.pool ≡ Some object
      → In filled.pool (used_state_pools m s.actions)
  used a r filled object is state of =
      in_act s.actions a r filled is
      (λ act there has.
      let refers : refers_to filled.pool act ≡ true = any_from (λ (x : Filled). nat_eq x.pool filled.pool) act.references filled (in_get act.references r filled has) (eq-eqb filled.pool filled.pool refl) in
      to_filter (λ p. is_state_pool m p && list_any (refers_to p) s.actions) (range_with_len 0 (length m.pools)) filled.pool
      (in_range 0 (length m.pools) filled.pool filled.pool (pool_there m filled.pool object of) (omega arith))
      (and_from (is_state_pool m filled.pool) (list_any (refers_to filled.pool) s.actions) state (any_from (refers_to filled.pool) s.actions act (in_get s.actions a act there) refers)))

  -- a state pool that is used is one of a reference
  refers_by : (pool : ℕ) → In pool (used_state_pools m s.actions)
      → (a : ℕ) × (r : ℕ) × (filled : Filled) × (reference_at s.actions a r ≡ Some filled) × (filled.pool ≡ pool) × (is_state_pool m pool ≡ true)
  refers_by pool has =
      let test = in_filter (λ p. is_state_pool m p && list_any (refers_to p) s.actions) (range_with_len 0 (length m.pools)) pool has in
      let parts = and_parts (is_state_pool m pool) (list_any (refers_to pool) s.actions) test.1 in
      let act = any_found (refers_to pool) s.actions parts.1 in
      let filled = any_found (λ (x : Filled). nat_eq x.pool pool) act.0.references act.2 in
      let a = place s.actions act.0 act.1 in
      let r = place act.0.references filled.0 filled.1 in
      (a.0, r.0, filled.0, from_act s.actions a.0 r.0 act.0 filled.0 a.1 r.1, eqb-true filled.0.pool pool filled.2, parts.0)

  -- the parts of an action's constraints
  abbrev own : ℕ → Act → List Stating
  own a act = map (stating (act_slot m s a act)) (action_constraints (type_of m act.action))

  abbrev outputs : ℕ → Act → List Stating
  outputs a act = flat_map (of_output m s a) (enumerate_from 0 act.references)

  abbrev claimed : ℕ → Act → List Stating
  claimed a act = flat_map (of_claim m a act) (enumerate_from 0 (claims_of (type_of m act.action)))

  -- ---- the list has each constraint

  by_node : (n : ℕ) (node : Node) (one : Stating) → slice_get s.nodes n ≡ Some node → In one (of_node m s (n, node)) → In one (constraints_of m s)
  by_node n node one is has =
      to_left (flat_map (of_node m s) (enumerate_from 0 s.nodes)) _ one (to_flat_map (of_node m s) (enumerate_from 0 s.nodes) (n, node) one (to_numbered s.nodes n node is) has)

  by_act : (a : ℕ) (act : Act) (one : Stating) → slice_get s.actions a ≡ Some act → In one (of_act m s (a, act)) → In one (constraints_of m s)
  by_act a act one is has =
      to_right (flat_map (of_node m s) (enumerate_from 0 s.nodes)) _ one
      (to_left (flat_map (of_act m s) (enumerate_from 0 s.actions)) _ one (to_flat_map (of_act m s) (enumerate_from 0 s.actions) (a, act) one (to_numbered s.actions a act is) has))

  by_pool : (pool : ℕ) (one : Stating) → In pool (used_state_pools m s.actions) → In one (of_first_object m s pool) → In one (constraints_of m s)
  by_pool pool one there has =
      to_right (flat_map (of_node m s) (enumerate_from 0 s.nodes)) _ one
      (to_right (flat_map (of_act m s) (enumerate_from 0 s.actions)) _ one (to_flat_map (of_first_object m s) (used_state_pools m s.actions) pool one there has))

  of_type_in : (standing : SlotTree → Standing) (action : ℕ) (type : ActionTree) (k : ConstraintTree) → type_of m action ≡ Some type → Contains type.constraints k
      → In (stating standing k) (map (stating standing) (action_constraints (type_of m action)))
  of_type_in standing action type k of has =
      subst (λ t. In (stating standing k) (map (stating standing) (action_constraints t))) (sym of) (to_map (stating standing) type.constraints k (in_contains type.constraints k has))

  of_object_in : (standing : SlotTree → Standing) (o : Option ObjectTree) (object : ObjectTree) (k : ConstraintTree) → o ≡ Some object → Contains object.constraints k
      → In (stating standing k) (map (stating standing) (object_constraints o))
  of_object_in standing o object k of has =
      subst (λ t. In (stating standing k) (map (stating standing) (object_constraints t))) (sym of) (to_map (stating standing) object.constraints k (in_contains object.constraints k has))

  pub has_listed : ((n top : ℕ) (step : StepTree) (indices : List ℕ) → StandsFor m s.nodes top n step indices → statement_of m s.nodes n ≡ Some (record { top = top; step = step; indices = indices }))
      → ((n top : ℕ) (step : StepTree) (indices : List ℕ) → StandsFor m s.nodes top n step indices → (node : Node) × (slice_get s.nodes n ≡ Some node))
      → {k : ConstraintTree} {standing : SlotTree → Standing} → HasConstraint m s k standing → In (stating standing k) (constraints_of m s)
  has_listed finds nodes (OfCompound n action instance fields node type k is leaf of has) =
      let one = stating (node_slot m s n) k in
      let inside : In one (of_fill m s n node.fill) = subst (λ f. In one (of_fill m s n f)) (sym leaf) (of_type_in (node_slot m s n) action type k of has) in
      by_node n node one is (to_left (of_fill m s n node.fill) (of_stated m s n (statement_of m s.nodes n)) one inside)
  has_listed finds nodes (OfAct a act type k is has) =
      by_act a act (stating (act_slot m s a act) k) is.is (to_left (own a act) (outputs a act ++ claimed a act) (stating (act_slot m s a act) k) (of_type_in (act_slot m s a act) act.action type k is.of_type has))
  has_listed finds nodes (OfOutput a r filled object k is output of has) =
      in_act s.actions a r filled is
      (λ act there at.
      let one = stating (output_slot m s a r filled) k in
      let all = of_object_in (output_slot m s a r filled) (pool_object m filled.pool) object k of has in
      let inside : In one (of_output m s a (r, filled)) = subst (λ b. In one (if b then map (stating (output_slot m s a r filled)) (object_constraints (pool_object m filled.pool)) else [])) (sym output) all in
      by_act a act one there
      (to_right (own a act) (outputs a act ++ claimed a act) one (to_left (outputs a act) (claimed a act) one (to_flat_map (of_output m s a) (enumerate_from 0 act.references) (r, filled) one (to_numbered act.references r filled at) inside))))
  has_listed finds nodes (OfClaim a c act type claim object k is at of has) =
      let one = stating (resource_slot m a act c) k in
      let inside : In one (of_claim m a act (c, claim)) = of_object_in (resource_slot m a act c) (slice_get m.objects claim.object) object k of has in
      let all : In one (flat_map (of_claim m a act) (enumerate_from 0 (claims_of (type_of m act.action)))) =
      subst (λ t. In one (flat_map (of_claim m a act) (enumerate_from 0 (claims_of t)))) (sym is.of_type)
      (to_flat_map (of_claim m a act) (enumerate_from 0 type.claims) (c, claim) one (to_numbered type.claims c claim at) inside) in
      by_act a act one is.is (to_right (own a act) (outputs a act ++ claimed a act) one (to_right (outputs a act) (claimed a act) one all))
  has_listed finds nodes (OfFirst a r filled object k is state of has) =
      by_pool filled.pool (stating (first_object_slot m s filled.pool) k) (used a r filled object is state of) (of_object_in (first_object_slot m s filled.pool) (pool_object m filled.pool) object k of has)
  has_listed finds nodes (Inline n top action handle inline indices k stands has) =
      let one = stating (inline_slot m s n top indices) k in
      let node = nodes n top (Traverse action handle inline) indices stands in
      let inside : In one (of_stated m s n (statement_of m s.nodes n)) =
      subst (λ t. In one (of_stated m s n t)) (sym (finds n top (Traverse action handle inline) indices stands)) (to_map (stating (inline_slot m s n top indices)) inline k (in_contains inline k has)) in
      by_node n node.0 one node.1 (to_right (of_fill m s n node.0.fill) (of_stated m s n (statement_of m s.nodes n)) one inside)

  -- ---- the list has no other

  abbrev Has : Stating → Type 0
  Has one = HasConstraint m s one.constraint one.standing

  of_type_has : (standing : SlotTree → Standing) (t : Option ActionTree) (one : Stating) → ((type : ActionTree) (k : ConstraintTree) → t ≡ Some type → Contains type.constraints k → HasConstraint m s k standing)
      → In one (map (stating standing) (action_constraints t)) → Has one
  of_type_has standing None one go has = absurd has
  of_type_has standing (Some type) one go has =
      let r = in_map (stating standing) type.constraints one has in
      subst Has r.2 (go type r.0 refl (to_contains type.constraints r.0 r.1))

  of_object_has : (standing : SlotTree → Standing) (t : Option ObjectTree) (one : Stating) → ((object : ObjectTree) (k : ConstraintTree) → t ≡ Some object → Contains object.constraints k → HasConstraint m s k standing)
      → In one (map (stating standing) (object_constraints t)) → Has one
  of_object_has standing None one go has = absurd has
  of_object_has standing (Some object) one go has =
      let r = in_map (stating standing) object.constraints one has in
      subst Has r.2 (go object r.0 refl (to_contains object.constraints r.0 r.1))

  fill_has : (n : ℕ) (node : Node) (f : Fill) (one : Stating) → slice_get s.nodes n ≡ Some node → node.fill ≡ f → In one (of_fill m s n f) → Has one
  fill_has n node (fill.Compound action instance fields) one is of has =
      of_type_has (node_slot m s n) (type_of m action) one (λ type k typed inside. OfCompound n action instance fields node type k is of typed inside) has
  fill_has n node (fill.Leaf act) one is of has = absurd has
  fill_has n node fill.Sequence one is of has = absurd has
  fill_has n node fill.Parallel one is of has = absurd has
  fill_has n node fill.Schedule one is of has = absurd has
  fill_has n node (fill.Joined parallel joined) one is of has = absurd has
  fill_has n node (fill.Select branch) one is of has = absurd has
  fill_has n node fill.Repeat one is of has = absurd has
  fill_has n node (fill.Turn index) one is of has = absurd has
  fill_has n node (fill.If taken) one is of has = absurd has
  fill_has n node (fill.Match arm) one is of has = absurd has

  step_has : (n top : ℕ) (indices : List ℕ) (step : StepTree) (one : Stating) → StandsFor m s.nodes top n step indices → In one (of_step m s n top indices step) → Has one
  step_has n top indices (Traverse action handle inline) one stands has =
      let r = in_map (stating (inline_slot m s n top indices)) inline one has in
      subst Has r.2 (Inline n top action handle inline indices r.0 stands (to_contains inline r.0 r.1))
  step_has n top indices (Sequence steps) one stands has = absurd has
  step_has n top indices (Parallel steps) one stands has = absurd has
  step_has n top indices (Schedule steps) one stands has = absurd has
  step_has n top indices (Joined parallel join steps) one stands has = absurd has
  step_has n top indices (Select _) one stands has = absurd has
  step_has n top indices (Repeat count body) one stands has = absurd has
  step_has n top indices (If condition holds fails) one stands has = absurd has
  step_has n top indices (Match value arms other) one stands has = absurd has

  output_has : (a : ℕ) (act : Act) (e : ℕ × Filled) (one : Stating) → slice_get s.actions a ≡ Some act → slice_get act.references e.0 ≡ Some e.1 → In one (of_output m s a e) → Has one
  output_has a act e one there at has =
      let r = in_if (is_output e.1.flow) (map (stating (output_slot m s a e.0 e.1)) (object_constraints (pool_object m e.1.pool))) one has in
      of_object_has (output_slot m s a e.0 e.1) (pool_object m e.1.pool) one
      (λ object k of inside. OfOutput a e.0 e.1 object k (from_act s.actions a e.0 act e.1 there at) r.0 of inside) r.1

  claims_has : (a : ℕ) (act : Act) (t : Option ActionTree) (one : Stating) → slice_get s.actions a ≡ Some act → type_of m act.action ≡ t → In one (flat_map (of_claim m a act) (enumerate_from 0 (claims_of t))) → Has one
  claims_has a act None one there of has = absurd has
  claims_has a act (Some type) one there of has =
      let r = in_flat_map (of_claim m a act) (enumerate_from 0 type.claims) one has in
      of_object_has (resource_slot m a act r.0.0) (slice_get m.objects r.0.1.object) one
      (λ object k is inside. OfClaim a r.0.0 act type r.0.1 object k (record { is = there; of_type = of }) (in_numbered type.claims r.0 r.1) is inside) r.2

  act_has : (a : ℕ) (act : Act) (one : Stating) → slice_get s.actions a ≡ Some act → In one (of_act m s (a, act)) → Has one
  act_has a act one there has =
      ⊎_elim
      (λ own. of_type_has (act_slot m s a act) (type_of m act.action) one (λ type k of inside. OfAct a act type k (record { is = there; of_type = of }) inside) own)
      (λ more. ⊎_elim
      (λ written. let r = in_flat_map (of_output m s a) (enumerate_from 0 act.references) one written in output_has a act r.0 one there (in_numbered act.references r.0 r.1) r.2)
      (λ claims. claims_has a act (type_of m act.action) one there refl claims)
      (in_append (outputs a act) (claimed a act) one more))
      (in_append (own a act) (outputs a act ++ claimed a act) one has)

  first_has : (pool : ℕ) (one : Stating) → In pool (used_state_pools m s.actions) → In one (of_first_object m s pool) → Has one
  first_has pool one there has =
      let by = refers_by pool there in
      of_object_has (first_object_slot m s pool) (pool_object m pool) one
      (λ object k of inside. subst (λ p. HasConstraint m s k (first_object_slot m s p)) by.4
      (OfFirst by.0 by.1 by.2 object k by.3 (subst (λ p. is_state_pool m p ≡ true) (sym by.4) by.5) (ap (pool_object m) by.4 ∙ of) inside)) has

  pub listed_has : ((n : ℕ) (x : Stated) → statement_of m s.nodes n ≡ Some x → StandsFor m s.nodes x.top n x.step x.indices) → (one : Stating) → In one (constraints_of m s) → Has one
  listed_has stands one has =
      ⊎_elim
      (λ of_nodes. let r = in_flat_map (of_node m s) (enumerate_from 0 s.nodes) one of_nodes in node_has r.0 (in_numbered s.nodes r.0 r.1) r.2)
      (λ more. ⊎_elim
      (λ of_acts. let r = in_flat_map (of_act m s) (enumerate_from 0 s.actions) one of_acts in act_has r.0.0 r.0.1 one (in_numbered s.actions r.0 r.1) r.2)
      (λ of_firsts. let r = in_flat_map (of_first_object m s) (used_state_pools m s.actions) one of_firsts in first_has r.0 one r.1 r.2)
      (in_append (flat_map (of_act m s) (enumerate_from 0 s.actions)) (flat_map (of_first_object m s) (used_state_pools m s.actions)) one more))
      (in_append (flat_map (of_node m s) (enumerate_from 0 s.nodes)) (flat_map (of_act m s) (enumerate_from 0 s.actions) ++ flat_map (of_first_object m s) (used_state_pools m s.actions)) one has)
    where
      stated_has : (n : ℕ) (t : Option Stated) → statement_of m s.nodes n ≡ t → In one (of_stated m s n t) → Has one
      stated_has n None is inside = absurd inside
      stated_has n (Some x) is inside = step_has n x.top x.indices x.step one (stands n x is) inside

      node_has : (e : ℕ × Node) → slice_get s.nodes e.0 ≡ Some e.1 → In one (of_node m s e) → Has one
      node_has e is inside =
          ⊎_elim (λ own. fill_has e.0 e.1 e.1.fill one is refl own) (λ inlined. stated_has e.0 (statement_of m s.nodes e.0) refl inlined)
          (in_append (of_fill m s e.0 e.1.fill) (of_stated m s e.0 (statement_of m s.nodes e.0)) one inside)
