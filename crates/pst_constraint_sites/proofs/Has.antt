-- Each constraint of a group is one of every scenario that differs in values alone.
use Rattle.std.proofs.Common.{◌≡◌, ℕ, List, [], ◌∷◌, ◌++◌, length, Contains, nat_eq, ◌&&◌, Option, Some, None, refl, sym, ap, ◌∙◌, subst, inl, inr, ⊎_elim, arith}
use Rattle.std.specs.Prelude.{slice_get, flat_map}
use Rattle.std.specs.List.{enumerate_from, list_any, range_with_len}
use Rattle.std.specs.Option.{option_and_then}
use Rattle.std.proofs.lemmas.Bool.{and_parts, eqb-true}
use Rattle.std.proofs.lemmas.Option.{none-some}
use Rattle.pst_model.specs.declared.action.Claim.{Claim}
use Rattle.pst_model.specs.ConstraintTree.{ConstraintTree}
use Rattle.pst_model.specs.ActivityTree.{StepTree, Traverse, Sequence, Parallel, Schedule, Joined, Select, Repeat, If, Match}
use Rattle.pst_model.specs.ModelTree.{ModelTree, ActionTree, ObjectTree}
use Rattle.pst_scen.specs.declared.tree.Node.{Node}
use Rattle.pst_scen.specs.declared.tree.Fill.{Fill}
use Rattle.pst_scen.specs.declared.tree.Fill.TheVariants as fill
use Rattle.pst_scen.specs.declared.act.Act.{Act}
use Rattle.pst_scen.specs.declared.act.Filled.{Filled}
use Rattle.pst_scen.specs.declared.scenario.First.{First}
use Rattle.pst_scen.specs.declared.scenario.Scenario.{Scenario}
use Rattle.pst_scen.specs.Scenarios.{reference_at}
use Rattle.pst_legal.specs.Types.{type_of, pool_object, is_state_pool, is_output}
use Rattle.pst_legal.specs.Blanks.{claims_of, refers_to, used_state_pools}
use Rattle.pst_legal.specs.Slots.{node_slot, act_slot, inline_slot, output_slot, resource_slot, first_object_slot, maybe_act_slot}
use Rattle.pst_legal.specs.Statements.{StandsFor}
use Rattle.pst_legal.specs.Constraints.{OfCompound, OfAct, OfOutput, OfClaim, OfFirst, Inline}
use Rattle.pst_built.proofs.Members.{In, in_append, in_flat_map, in_if, in_numbered, in_filter, to_map, any_found}
use Rattle.pst_built.proofs.SoundActs.{in_place}
use Rattle.pst_built.proofs.Lists.{in_contains}
use Rattle.pst_built.specs.Onward.{Both}
use Rattle.pst_slots.specs.Stated.{Stated, statement_of}
use Rattle.pst_slots.specs.Listed.{action_constraints, object_constraints}
use Rattle.pst_slots.proofs.Found.{found}
use Rattle.pst_blank_values.specs.Values.{IsSameReference, IsSameAct, IsSameButValues}
use Rattle.pst_constraint_sites.specs.Sites.{SiteTree, AtNode, AtTraversal, AtAct, AtOutput, AtClaim, AtFirst, maybe_output_slot, maybe_resource_slot}
use Rattle.pst_constraint_sites.specs.Groups.{GroupTree, one_group, fill_groups, step_groups, stated_groups, node_groups, output_groups, claim_groups, act_groups, first_object_groups, groups}
use Rattle.pst_constraint_sites.specs.Laws.{HasAt, HasFirstObjects, GroupsHaveConstraints}

none_in : {A : Type 0} (x : A) → Contains [] x → ⊥
none_in x has = let l = has.1 in omega (arith, l)

-- ---- what has the constraints

of_type : (o : Option ActionTree) (k : ConstraintTree) → Contains (action_constraints o) k → (type : ActionTree) × (o ≡ Some type) × Contains type.constraints k
of_type None k has = absurd (none_in k has)
of_type (Some type) k has = (type, refl, has)

of_object : (o : Option ObjectTree) (k : ConstraintTree) → Contains (object_constraints o) k → (object : ObjectTree) × (o ≡ Some object) × Contains object.constraints k
of_object None k has = absurd (none_in k has)
of_object (Some object) k has = (object, refl, has)

claim_type : (o : Option ActionTree) (c : ℕ) (claim : Claim) → slice_get (claims_of o) c ≡ Some claim → (type : ActionTree) × (o ≡ Some type) × (slice_get type.claims c ≡ Some claim)
claim_type None c claim is = absurd (none-some claim is)
claim_type (Some type) c claim is = (type, refl, is)

there : {A : Type 0} (G : A → A → Type 0) (x : A) (o p : Option A) → o ≡ Some x → Both G o p → (y : A) × (p ≡ Some y) × G x y
there {A} G x o p is both = by p (subst (λ q. Both G q p) is both)
  where
    by : (q : Option A) → Both G (Some x) q → (y : A) × (q ≡ Some y) × G x y
    by None both = absurd both
    by (Some y) both = (y, refl, both)

module _ (m : ModelTree) (s t : Scenario) (same : IsSameButValues s t) where
  abbrev Has : GroupTree → Type 0
  Has group = (k : ConstraintTree) → Contains group.constraints k → HasAt m t group.site k

  -- the only group of a list
  only : (site : SiteTree) (constraints : List ConstraintTree) (group : GroupTree) → Has (record { site = site; constraints = constraints }) → In group (one_group site constraints) → Has group
  only site [] group has inside = absurd inside
  only site (x ∷ xs) group has (inl e) = subst Has e has
  only site (x ∷ xs) group has (inr none) = absurd none

  -- ---- nodes

  fill_has : (n : ℕ) (node : Node) (f : Fill) → slice_get t.nodes n ≡ Some node → node.fill ≡ f → (group : GroupTree) → In group (fill_groups m n f) → Has group
  fill_has n node (fill.Compound action instance fields) is filled group inside =
      only (AtNode n) (action_constraints (type_of m action)) group
      (λ k has. let o = of_type (type_of m action) k has in (node_slot m t n, OfCompound n action instance fields node o.0 k is filled o.1 o.2, λ slot. refl)) inside
  fill_has n node (fill.Leaf act) is filled group inside = absurd inside
  fill_has n node fill.Sequence is filled group inside = absurd inside
  fill_has n node fill.Parallel is filled group inside = absurd inside
  fill_has n node fill.Schedule is filled group inside = absurd inside
  fill_has n node (fill.Joined parallel joined) is filled group inside = absurd inside
  fill_has n node (fill.Select branch) is filled group inside = absurd inside
  fill_has n node fill.Repeat is filled group inside = absurd inside
  fill_has n node (fill.Turn index) is filled group inside = absurd inside
  fill_has n node (fill.If taken) is filled group inside = absurd inside
  fill_has n node (fill.Match arm) is filled group inside = absurd inside

  step_has : (n top : ℕ) (indices : List ℕ) (step : StepTree) → StandsFor m t.nodes top n step indices → (group : GroupTree) → In group (step_groups n top indices step) → Has group
  step_has n top indices (Traverse action handle inline) stands group inside =
      only (AtTraversal n top indices) inline group (λ k has. (inline_slot m t n top indices, Inline n top action handle inline indices k stands has, λ slot. refl)) inside
  step_has n top indices (Sequence steps) stands group inside = absurd inside
  step_has n top indices (Parallel steps) stands group inside = absurd inside
  step_has n top indices (Schedule steps) stands group inside = absurd inside
  step_has n top indices (Joined parallel join steps) stands group inside = absurd inside
  step_has n top indices (Select branches) stands group inside = absurd inside
  step_has n top indices (Repeat count body) stands group inside = absurd inside
  step_has n top indices (If condition holds fails) stands group inside = absurd inside
  step_has n top indices (Match matched arms other) stands group inside = absurd inside

  stated_has : (n : ℕ) (o : Option Stated) → statement_of m t.nodes n ≡ o → (group : GroupTree) → In group (stated_groups n o) → Has group
  stated_has n None e group inside = absurd inside
  stated_has n (Some x) e group inside = step_has n x.top x.indices x.step (found m t.nodes (length t.nodes) n x e) group inside

  node_has : (e : ℕ × Node) → In e (enumerate_from 0 t.nodes) → (group : GroupTree) → In group (node_groups m t.nodes e) → Has group
  node_has e has group inside =
      ⊎_elim (fill_has e.0 e.1 e.1.fill (in_numbered t.nodes e has) refl group)
      (stated_has e.0 (statement_of m t.nodes e.0) refl group)
      (in_append (fill_groups m e.0 e.1.fill) (stated_groups e.0 (statement_of m t.nodes e.0)) group inside)

  nodes_have : (group : GroupTree) → In group (flat_map (node_groups m s.nodes) (enumerate_from 0 s.nodes)) → Has group
  nodes_have group inside =
      let moved = subst (λ nodes. In group (flat_map (node_groups m nodes) (enumerate_from 0 nodes))) (sym same.nodes) inside in
      let e = in_flat_map (node_groups m t.nodes) (enumerate_from 0 t.nodes) group moved in
      node_has e.0 e.1 group e.2

  -- ---- actions

  module _ (a : ℕ) (x y : Act) (was : slice_get s.actions a ≡ Some x) (is : slice_get t.actions a ≡ Some y) (one : IsSameAct x y) where
    own_has : (group : GroupTree) → In group (one_group (AtAct a) (action_constraints (type_of m x.action))) → Has group
    own_has group inside =
        only (AtAct a) (action_constraints (type_of m x.action)) group
        (λ k has.
        let o = of_type (type_of m x.action) k has in
        (act_slot m t a y, OfAct a y o.0 k (record { is = is; of_type = ap (type_of m) one.action ∙ o.1 }) o.2, λ slot. ap (λ p. maybe_act_slot m t a p slot) is)) inside

    output_has : (e : ℕ × Filled) → In e (enumerate_from 0 x.references) → (group : GroupTree) → In group (output_groups m a e) → Has group
    output_has e at group inside =
        let f = e.1 in
        let test = in_if (is_output f.flow) (one_group (AtOutput a e.0) (object_constraints (pool_object m f.pool))) group inside in
        let g = there IsSameReference f (slice_get x.references e.0) (slice_get y.references e.0) (in_numbered x.references e at) (one.references e.0) in
        let now : reference_at t.actions a e.0 ≡ Some g.0 = ap (option_and_then (λ (z : Act). slice_get z.references e.0)) is ∙ g.1 in
        only (AtOutput a e.0) (object_constraints (pool_object m f.pool)) group
        (λ k has.
        let o = of_object (pool_object m f.pool) k has in
        (output_slot m t a e.0 g.0, OfOutput a e.0 g.0 o.0 k now (ap is_output g.2.flow ∙ test.0) (ap (pool_object m) g.2.pool ∙ o.1) o.2, λ slot. ap (λ p. maybe_output_slot m t a e.0 p slot) now)) test.1

    claim_has : (e : ℕ × Claim) → In e (enumerate_from 0 (claims_of (type_of m x.action))) → (group : GroupTree) → In group (claim_groups m a e) → Has group
    claim_has e at group inside =
        let type = claim_type (type_of m x.action) e.0 e.1 (in_numbered (claims_of (type_of m x.action)) e at) in
        only (AtClaim a e.0) (object_constraints (slice_get m.objects e.1.object)) group
        (λ k has.
        let o = of_object (slice_get m.objects e.1.object) k has in
        (resource_slot m a y e.0, OfClaim a e.0 y type.0 e.1 o.0 k (record { is = is; of_type = ap (type_of m) one.action ∙ type.1 }) type.2 o.1 o.2, λ slot. ap (λ p. maybe_resource_slot m a p e.0 slot) is)) inside

    act_has : (group : GroupTree) → In group (act_groups m (a, x)) → Has group
    act_has group inside =
        let own = one_group (AtAct a) (action_constraints (type_of m x.action)) in
        let outputs = flat_map (output_groups m a) (enumerate_from 0 x.references) in
        let claims = flat_map (claim_groups m a) (enumerate_from 0 (claims_of (type_of m x.action))) in
        ⊎_elim (own_has group)
        (λ more. ⊎_elim
        (λ h. let e = in_flat_map (output_groups m a) (enumerate_from 0 x.references) group h in output_has e.0 e.1 group e.2)
        (λ h. let e = in_flat_map (claim_groups m a) (enumerate_from 0 (claims_of (type_of m x.action))) group h in claim_has e.0 e.1 group e.2)
        (in_append outputs claims group more))
        (in_append own (outputs ++ claims) group inside)

  acts_have : (group : GroupTree) → In group (flat_map (act_groups m) (enumerate_from 0 s.actions)) → Has group
  acts_have group inside =
      let e = in_flat_map (act_groups m) (enumerate_from 0 s.actions) group inside in
      let was = in_numbered s.actions e.0 e.1 in
      let y = there IsSameAct e.0.1 (slice_get s.actions e.0.0) (slice_get t.actions e.0.0) was (same.acts e.0.0) in
      act_has e.0.0 e.0.1 y.0 was y.1 y.2 group e.2

  -- ---- first objects

  first_has : (pool : ℕ) → In pool (used_state_pools m s.actions) → Has (record { site = AtFirst pool; constraints = object_constraints (pool_object m pool) })
  first_has pool used k has =
      let test = (in_filter (λ p. is_state_pool m p && list_any (refers_to p) s.actions) (range_with_len 0 (length m.pools)) pool used).1 in
      let parts = and_parts (is_state_pool m pool) (list_any (refers_to pool) s.actions) test in
      let x = any_found (refers_to pool) s.actions parts.1 in
      let f = any_found (λ (filled : Filled). nat_eq filled.pool pool) x.0.references x.2 in
      let a = in_place s.actions x.0 x.1 in
      let r = in_place x.0.references f.0 f.1 in
      let y = there IsSameAct x.0 (slice_get s.actions a.0) (slice_get t.actions a.0) a.1 (same.acts a.0) in
      let g = there IsSameReference f.0 (slice_get x.0.references r.0) (slice_get y.0.references r.0) r.1 (y.2.references r.0) in
      let now : reference_at t.actions a.0 r.0 ≡ Some g.0 = ap (option_and_then (λ (z : Act). slice_get z.references r.0)) y.1 ∙ g.1 in
      let pools : g.0.pool ≡ pool = g.2.pool ∙ eqb-true f.0.pool pool f.2 in
      let o = of_object (pool_object m pool) k has in
      (first_object_slot m t g.0.pool, OfFirst a.0 r.0 g.0 o.0 k now (ap (is_state_pool m) pools ∙ parts.0) (ap (pool_object m) pools ∙ o.1) o.2, λ slot. ap (λ p. first_object_slot m t p slot) (sym pools))

  firsts_have : HasFirstObjects m s → (group : GroupTree) → In group (flat_map (first_object_groups m) s.firsts) → Has group
  firsts_have pools group inside =
      let first = in_flat_map (first_object_groups m) s.firsts group inside in
      let used : In first.0.pool (used_state_pools m s.actions) = subst (In first.0.pool) pools (to_map (λ (f : First). f.pool) s.firsts first.0 first.1) in
      only (AtFirst first.0.pool) (object_constraints (pool_object m first.0.pool)) group (first_has first.0.pool used) first.2

pub have : GroupsHaveConstraints
have m s t pools same group has =
    let nodes = flat_map (node_groups m s.nodes) (enumerate_from 0 s.nodes) in
    let acts = flat_map (act_groups m) (enumerate_from 0 s.actions) in
    let firsts = flat_map (first_object_groups m) s.firsts in
    ⊎_elim (nodes_have m s t same group)
    (λ more. ⊎_elim (acts_have m s t same group) (firsts_have m s t same pools group) (in_append acts firsts group more))
    (in_append nodes (acts ++ firsts) group (in_contains (groups m s) group has))
