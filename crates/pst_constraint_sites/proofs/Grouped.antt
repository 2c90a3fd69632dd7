-- Each constraint of a scenario that differs in values alone is one of a group.
use Rattle.std.proofs.Common.{◌≡◌, ◌<◌, ◌≤◌, ◌+◌, ℕ, zero, suc, false, nat_lt, ltb-true, ltb-false, List, [], ◌∷◌, ◌++◌, length, Contains, Bool, true, nat_eq, ◌&&◌, if◌then◌else◌, Option, Some, None, refl, sym, ap, ◌∙◌, subst, inl, inr, arith}
use Rattle.std.specs.Prelude.{slice_get, flat_map}
use Rattle.std.specs.List.{enumerate_from, list_any, range_with_len}
use Rattle.std.specs.Option.{option_and_then}
use Rattle.std.proofs.lemmas.Bool.{and_from, eq-eqb}
use Rattle.std.proofs.lemmas.Option.{none-some, option_and_then_some, slice_get_within}
use Rattle.pst_model.specs.declared.model.Pool.{Pool}
use Rattle.pst_model.specs.ConstraintTree.{SlotTree, ConstraintTree}
use Rattle.pst_model.specs.ActivityTree.{Traverse}
use Rattle.pst_model.specs.ModelTree.{ModelTree, ObjectTree}
use Rattle.pst_scen.specs.declared.tree.Node.{Node}
use Rattle.pst_scen.specs.declared.act.Act.{Act}
use Rattle.pst_scen.specs.declared.act.Filled.{Filled}
use Rattle.pst_scen.specs.declared.scenario.First.{First}
use Rattle.pst_scen.specs.declared.scenario.Scenario.{Scenario}
use Rattle.pst_legal.specs.Types.{type_of, pool_object, is_state_pool, is_output}
use Rattle.pst_legal.specs.Blanks.{claims_of, refers_to, used_state_pools}
use Rattle.pst_legal.specs.Slots.{first_object_slot, maybe_act_slot, output_slot}
use Rattle.pst_legal.specs.Standing.{Standing}
use Rattle.pst_legal.specs.Constraints.{HasConstraint, OfCompound, OfAct, OfOutput, OfClaim, OfFirst, Inline}
use Rattle.pst_built.proofs.Members.{In, in_get, in_map, to_left, to_right, to_flat_map, to_numbered, to_filter, to_contains, any_from}
use Rattle.pst_built.specs.Onward.{Both}
use Rattle.pst_slots.specs.Stated.{statement_of}
use Rattle.pst_slots.specs.Listed.{action_constraints, object_constraints}
use Rattle.pst_slots.proofs.Kept.{all_found, stands_at}
use Rattle.pst_refusals.specs.Answers.{StandEarlier}
use Rattle.pst_blank_values.specs.Values.{IsSameReference, IsSameAct, IsSameButValues}
use Rattle.pst_constraint_sites.specs.Sites.{SiteTree, AtNode, AtTraversal, AtAct, AtOutput, AtClaim, AtFirst, maybe_output_slot, maybe_resource_slot, slot_at}
use Rattle.pst_constraint_sites.specs.Groups.{GroupTree, one_group, fill_groups, stated_groups, node_groups, output_groups, claim_groups, act_groups, first_object_groups, groups}
use Rattle.pst_constraint_sites.specs.Laws.{IsGrouped, HasFirstObjects, ConstraintsAreGrouped}

-- of what is there now, what was there
was : {A : Type 0} (G : A → A → Type 0) (y : A) (o p : Option A) → p ≡ Some y → Both G o p → (x : A) × (o ≡ Some x) × G x y
was {A} G y o p is both = by o (subst (λ q. Both G o q) is both)
  where
    by : (q : Option A) → Both G q (Some y) → (x : A) × (q ≡ Some x) × G x y
    by None both = absurd both
    by (Some x) both = (x, refl, both)

in_if : {A : Type 0} (b : Bool) (xs : List A) (x : A) → b ≡ true → In x xs → In x (if b then xs else [])
in_if b xs x e has = subst (λ c. In x (if c then xs else [])) (sym e) has

to_range : (first n k : ℕ) → first ≤ k → k < first + n → In k (range_with_len first n)
to_range first zero k low high = absurd (omega (arith, low, high))
to_range first (suc n) k low high = by (nat_lt first k) refl (λ l. to_range (first + 1) n k (omega (arith, l)) (omega (arith, high)))
  where
    by : (b : Bool) → nat_lt first k ≡ b → (first < k → In k (range_with_len (first + 1) n)) → In k (first ∷ range_with_len (first + 1) n)
    by true e more = inr (more (ltb-true first k e))
    by false e more = let l = ltb-false first k e in inl (omega (arith, l, low))

in_numbers : (m : ModelTree) (pool : ℕ) (object : ObjectTree) → pool_object m pool ≡ Some object → In pool (range_with_len 0 (length m.pools))
in_numbers m pool object is =
    option_and_then_some {P = In pool (range_with_len 0 (length m.pools))} (λ (p : Pool). slice_get m.objects p.object) (slice_get m.pools pool) object is
    (λ p at has. let l = slice_get_within m.pools pool p at in to_range 0 (length m.pools) pool (omega arith) (omega (arith, l)))

-- a group of which a constraint is told is there
in_one : (site : SiteTree) (constraints : List ConstraintTree) (k : ConstraintTree) → Contains constraints k → In (record { site = site; constraints = constraints }) (one_group site constraints)
in_one site [] k has = let l = has.1 in absurd (omega (arith, l))
in_one site (x ∷ xs) k has = inl refl

module _ (m : ModelTree) (s t : Scenario) (firsts : HasFirstObjects m s) (earlier : StandEarlier t.nodes) (same : IsSameButValues s t) where
  abbrev nodes : List GroupTree
  nodes = flat_map (node_groups m s.nodes) (enumerate_from 0 s.nodes)

  abbrev acts : List GroupTree
  acts = flat_map (act_groups m) (enumerate_from 0 s.actions)

  abbrev objects : List GroupTree
  objects = flat_map (first_object_groups m) s.firsts

  abbrev Grouped : ConstraintTree → (SlotTree → Standing) → Type 0
  Grouped k standing = IsGrouped m s t k standing

  grouped : (site : SiteTree) (constraints : List ConstraintTree) (k : ConstraintTree) (standing : SlotTree → Standing) → In (record { site = site; constraints = constraints }) (groups m s) → Contains constraints k
      → ((slot : SlotTree) → slot_at m t site slot ≡ standing slot) → Grouped k standing
  grouped site constraints k standing inside has equal = record { group = record { site = site; constraints = constraints }; is = to_contains (groups m s) (record { site = site; constraints = constraints }) inside; has = has; same = equal }

  of_node : (n : ℕ) (node : Node) (group : GroupTree) → slice_get t.nodes n ≡ Some node → In group (node_groups m t.nodes (n, node)) → In group (groups m s)
  of_node n node group is inside =
      let all = to_flat_map (node_groups m t.nodes) (enumerate_from 0 t.nodes) (n, node) group (to_numbered t.nodes n node is) inside in
      to_left nodes (acts ++ objects) group (subst (λ xs. In group (flat_map (node_groups m xs) (enumerate_from 0 xs))) same.nodes all)

  of_act : (a : ℕ) (x : Act) (group : GroupTree) → slice_get s.actions a ≡ Some x → In group (act_groups m (a, x)) → In group (groups m s)
  of_act a x group is inside =
      to_right nodes (acts ++ objects) group (to_left acts objects group (to_flat_map (act_groups m) (enumerate_from 0 s.actions) (a, x) group (to_numbered s.actions a x is) inside))

  pub has_group : (k : ConstraintTree) (standing : SlotTree → Standing) → HasConstraint m t k standing → Grouped k standing
  has_group _ _ (OfCompound n action instance fields node type k is filled typed has) =
      let own = action_constraints (type_of m action) in
      let holds : Contains own k = subst (λ o. Contains (action_constraints o) k) (sym typed) has in
      let here : In (record { site = AtNode n; constraints = own }) (fill_groups m n node.fill) = subst (λ f. In (record { site = AtNode n; constraints = own }) (fill_groups m n f)) (sym filled) (in_one (AtNode n) own k holds) in
      grouped (AtNode n) own k _
      (of_node n node (record { site = AtNode n; constraints = own }) is (to_left (fill_groups m n node.fill) (stated_groups n (statement_of m t.nodes n)) (record { site = AtNode n; constraints = own }) here))
      holds (λ slot. refl)
  has_group _ _ (OfAct a act type k is has) =
      let x = was IsSameAct act (slice_get s.actions a) (slice_get t.actions a) is.is (same.acts a) in
      let own = action_constraints (type_of m x.0.action) in
      let typed : type_of m x.0.action ≡ Some type = ap (type_of m) (sym x.2.action) ∙ is.of_type in
      let holds : Contains own k = subst (λ o. Contains (action_constraints o) k) (sym typed) has in
      let outputs = flat_map (output_groups m a) (enumerate_from 0 x.0.references) in
      let claims = flat_map (claim_groups m a) (enumerate_from 0 (claims_of (type_of m x.0.action))) in
      grouped (AtAct a) own k _
      (of_act a x.0 (record { site = AtAct a; constraints = own }) x.1 (to_left (one_group (AtAct a) own) (outputs ++ claims) (record { site = AtAct a; constraints = own }) (in_one (AtAct a) own k holds)))
      holds (λ slot. ap (λ p. maybe_act_slot m t a p slot) is.is)
  has_group _ _ (OfOutput a r filled object k is output of_pool has) = by_output (slice_get t.actions a) refl
    where
      by_output : (p : Option Act) → slice_get t.actions a ≡ p → Grouped k (output_slot m t a r filled)
      by_output None e = absurd (none-some filled (sym (ap (option_and_then (λ (z : Act). slice_get z.references r)) e) ∙ is))
      by_output (Some y) e =
          let x = was IsSameAct y (slice_get s.actions a) (slice_get t.actions a) e (same.acts a) in
          let there : slice_get y.references r ≡ Some filled = sym (ap (option_and_then (λ (z : Act). slice_get z.references r)) e) ∙ is in
          let f = was IsSameReference filled (slice_get x.0.references r) (slice_get y.references r) there (x.2.references r) in
          let own = object_constraints (pool_object m f.0.pool) in
          let group : GroupTree = record { site = AtOutput a r; constraints = own } in
          let holds : Contains own k = subst (λ o. Contains (object_constraints o) k) (sym (ap (pool_object m) (sym f.2.pool) ∙ of_pool)) has in
          let inside : In group (output_groups m a (r, f.0)) = in_if (is_output f.0.flow) (one_group (AtOutput a r) own) group (ap is_output (sym f.2.flow) ∙ output) (in_one (AtOutput a r) own k holds) in
          let outputs = flat_map (output_groups m a) (enumerate_from 0 x.0.references) in
          let claims = flat_map (claim_groups m a) (enumerate_from 0 (claims_of (type_of m x.0.action))) in
          grouped (AtOutput a r) own k _
          (of_act a x.0 group x.1 (to_right (one_group (AtAct a) (action_constraints (type_of m x.0.action))) (outputs ++ claims) group
          (to_left outputs claims group (to_flat_map (output_groups m a) (enumerate_from 0 x.0.references) (r, f.0) group (to_numbered x.0.references r f.0 f.1) inside))))
          holds (λ slot. ap (λ p. maybe_output_slot m t a r p slot) is)
  has_group _ _ (OfClaim a c act type claim object k is claimed of_object has) =
      let x = was IsSameAct act (slice_get s.actions a) (slice_get t.actions a) is.is (same.acts a) in
      let typed : type_of m x.0.action ≡ Some type = ap (type_of m) (sym x.2.action) ∙ is.of_type in
      let own = object_constraints (slice_get m.objects claim.object) in
      let group : GroupTree = record { site = AtClaim a c; constraints = own } in
      let holds : Contains own k = subst (λ o. Contains (object_constraints o) k) (sym of_object) has in
      let there : slice_get (claims_of (type_of m x.0.action)) c ≡ Some claim = ap (λ o. slice_get (claims_of o) c) typed ∙ claimed in
      let outputs = flat_map (output_groups m a) (enumerate_from 0 x.0.references) in
      let claims = flat_map (claim_groups m a) (enumerate_from 0 (claims_of (type_of m x.0.action))) in
      grouped (AtClaim a c) own k _
      (of_act a x.0 group x.1 (to_right (one_group (AtAct a) (action_constraints (type_of m x.0.action))) (outputs ++ claims) group
      (to_right outputs claims group (to_flat_map (claim_groups m a) (enumerate_from 0 (claims_of (type_of m x.0.action))) (c, claim) group (to_numbered (claims_of (type_of m x.0.action)) c claim there) (in_one (AtClaim a c) own k holds)))))
      holds (λ slot. ap (λ p. maybe_resource_slot m a p c slot) is.is)
  has_group _ _ (OfFirst a r filled object k is state of_pool has) = by_first (slice_get t.actions a) refl
    where
      by_first : (p : Option Act) → slice_get t.actions a ≡ p → Grouped k (first_object_slot m t filled.pool)
      by_first None e = absurd (none-some filled (sym (ap (option_and_then (λ (z : Act). slice_get z.references r)) e) ∙ is))
      by_first (Some y) e =
          let x = was IsSameAct y (slice_get s.actions a) (slice_get t.actions a) e (same.acts a) in
          let there : slice_get y.references r ≡ Some filled = sym (ap (option_and_then (λ (z : Act). slice_get z.references r)) e) ∙ is in
          let f = was IsSameReference filled (slice_get x.0.references r) (slice_get y.references r) there (x.2.references r) in
          let pool = filled.pool in
          let test = λ (p : ℕ). is_state_pool m p && list_any (refers_to p) s.actions in
          let refers : refers_to pool x.0 ≡ true = any_from (λ (g : Filled). nat_eq g.pool pool) x.0.references f.0 (in_get x.0.references r f.0 f.1) (eq-eqb f.0.pool pool (sym f.2.pool)) in
          let used : list_any (refers_to pool) s.actions ≡ true = any_from (refers_to pool) s.actions x.0 (in_get s.actions a x.0 x.1) refers in
          let in_range : In pool (range_with_len 0 (length m.pools)) = in_numbers m filled.pool object of_pool in
          let listed : In pool (used_state_pools m s.actions) = to_filter test (range_with_len 0 (length m.pools)) pool in_range (and_from (is_state_pool m pool) (list_any (refers_to pool) s.actions) state used) in
          let first = in_map (λ (g : First). g.pool) s.firsts pool (subst (In pool) (sym firsts) listed) in
          let own = object_constraints (pool_object m first.0.pool) in
          let group : GroupTree = record { site = AtFirst first.0.pool; constraints = own } in
          let holds : Contains own k = subst (λ o. Contains (object_constraints o) k) (sym (ap (pool_object m) first.2 ∙ of_pool)) has in
          grouped (AtFirst first.0.pool) own k _
          (to_right nodes (acts ++ objects) group (to_right acts objects group (to_flat_map (first_object_groups m) s.firsts first.0 group first.1 (in_one (AtFirst first.0.pool) own k holds))))
          holds (λ slot. ap (λ p. first_object_slot m t p slot) first.2)
  has_group _ _ (Inline n top action handle inline indices k stands has) =
      let found = all_found m t.nodes earlier n top (Traverse action handle inline) indices stands in
      let node = stands_at m t.nodes top stands in
      let group : GroupTree = record { site = AtTraversal n top indices; constraints = inline } in
      let here : In group (stated_groups n (statement_of m t.nodes n)) = subst (λ o. In group (stated_groups n o)) (sym found) (in_one (AtTraversal n top indices) inline k has) in
      grouped (AtTraversal n top indices) inline k _
      (of_node n node.0 group node.1 (to_right (fill_groups m n node.0.fill) (stated_groups n (statement_of m t.nodes n)) group here)) has (λ slot. refl)

pub group : ConstraintsAreGrouped
group m s t firsts earlier same k standing has = has_group m s t firsts earlier same k standing has
