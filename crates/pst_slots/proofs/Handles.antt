-- A handle that is traversed once has its node.
use Rattle.std.proofs.Common.{◌≡◌, ℕ, zero, suc, ◌+◌, List, [], ◌∷◌, cond, Bool, true, false, nat_eq, Option, Some, None, refl, sym, ap, ◌∙◌, subst, inl, ⊎_elim, arith}
use Rattle.std.specs.Prelude.{slice_get, flat_map}
use Rattle.std.specs.List.{AllZip}
use Rattle.std.specs.Option.{option_and_then}
use Rattle.std.proofs.lemmas.Option.{none-some, same_Some}
use Rattle.std.proofs.lemmas.Bool.{false≢true, eqb-true, eq-eqb}
use Rattle.pst_model.specs.ActivityTree.{StepTree, Traverse, Sequence, Parallel, Schedule, Joined, Select, Repeat, If, Match, StepRow, NoSteps, MoreSteps, BranchRow, NoBranches, MoreBranches, BranchTree, MakeBranch, ArmRow, NoArms, MoreArms, ArmTree, MakeArm, MaybeStep, NoStep, SomeStep, steps_of}
use Rattle.pst_model.specs.ModelTree.{ModelTree}
use Rattle.pst_model.specs.Traversals.{traversal_by, traversals, traversals_of_steps, traversals_of_branches, traversals_of_branch, traversals_of_arms, traversals_of_arm, traversals_of_maybe, IsSteady}
use Rattle.pst_scen.specs.declared.tree.Node.{Node}
use Rattle.pst_legal.specs.Pieces.{Context, Statement, statements}
use Rattle.pst_legal.specs.Statements.{children_of, first_way, way_in_step, way_in_row, way_in, node_on}
use Rattle.pst_built.proofs.Members.{In, in_if, in_append}
use Rattle.pst_slots.proofs.Stood.{Stood}

-- ---- traversals within a select, repeat, if or match

by_handle : (handle : ℕ) (by : Option ℕ) → In false (traversal_by handle true by) → ⊥
by_handle handle None has = has
by_handle handle (Some other) has = ⊎_elim (λ e. false≢true (sym e)) (λ none. none) (in_if (nat_eq handle other) (true ∷ []) false has).1

mutual
  no_false : (handle : ℕ) (step : StepTree) → In false (traversals handle true step) → ⊥
  no_false handle (Traverse action by inline) has = by_handle handle by has
  no_false handle (Sequence steps) has = no_false_row handle steps has
  no_false handle (Parallel steps) has = no_false_row handle steps has
  no_false handle (Schedule steps) has = no_false_row handle steps has
  no_false handle (Joined parallel join steps) has = no_false_row handle steps has
  no_false handle (Select bs) has = no_false_branches handle bs has
  no_false handle (Repeat count body) has = no_false handle body has
  no_false handle (If condition holds fails) has =
      ⊎_elim (λ h. no_false handle holds h) (λ h. no_false_maybe handle fails h) (in_append (traversals handle true holds) (traversals_of_maybe handle fails) false has)
  no_false handle (Match value arms other) has =
      ⊎_elim (λ h. no_false_arms handle arms h) (λ h. no_false_maybe handle other h) (in_append (traversals_of_arms handle arms) (traversals_of_maybe handle other) false has)

  no_false_row : (handle : ℕ) (steps : StepRow) → In false (traversals_of_steps handle true steps) → ⊥
  no_false_row handle NoSteps has = has
  no_false_row handle (MoreSteps step steps) has =
      ⊎_elim (λ h. no_false handle step h) (λ h. no_false_row handle steps h) (in_append (traversals handle true step) (traversals_of_steps handle true steps) false has)

  pub no_false_branches : (handle : ℕ) (branches : BranchRow) → In false (traversals_of_branches handle branches) → ⊥
  no_false_branches handle NoBranches has = has
  no_false_branches handle (MoreBranches branch more) has =
      ⊎_elim (λ h. no_false_branch handle branch h) (λ h. no_false_branches handle more h) (in_append (traversals_of_branch handle branch) (traversals_of_branches handle more) false has)

  no_false_branch : (handle : ℕ) (branch : BranchTree) → In false (traversals_of_branch handle branch) → ⊥
  no_false_branch handle (MakeBranch guard weight step) has = no_false handle step has

  pub no_false_arms : (handle : ℕ) (arms : ArmRow) → In false (traversals_of_arms handle arms) → ⊥
  no_false_arms handle NoArms has = has
  no_false_arms handle (MoreArms arm arms) has =
      ⊎_elim (λ h. no_false_arm handle arm h) (λ h. no_false_arms handle arms h) (in_append (traversals_of_arm handle arm) (traversals_of_arms handle arms) false has)

  no_false_arm : (handle : ℕ) (arm : ArmTree) → In false (traversals_of_arm handle arm) → ⊥
  no_false_arm handle (MakeArm spans step) has = no_false handle step has

  pub no_false_maybe : (handle : ℕ) (maybe : MaybeStep) → In false (traversals_of_maybe handle maybe) → ⊥
  no_false_maybe handle NoStep has = has
  no_false_maybe handle (SomeStep step) has = no_false handle step has

-- ---- a way to each other one

-- the way to where one stands
abbrev no_steps : Option (List ℕ)
no_steps = Some []

chosen : (h handle : ℕ) (b : Bool) → nat_eq h handle ≡ b → handle ≡ h → (cond b no_steps None) ≡ None → ⊥
chosen h handle true is same none = none-some [] (sym none)
chosen h handle false is same none = false≢true (sym is ∙ eq-eqb h handle (sym same))

traversed : (handle : ℕ) (by : Option ℕ) (action : ℕ) (inline : List _) → In false (traversal_by handle false by) → way_in_step handle (Traverse action by inline) ≡ None → ⊥
traversed handle None action inline has none = has
traversed handle (Some h) action inline has none =
    let e = in_if (nat_eq handle h) (false ∷ []) false has in
    chosen h handle (nat_eq h handle) refl (eqb-true handle h e.0) none

none_first : (index : ℕ) (o others : Option (List ℕ)) → first_way index o others ≡ None → (o ≡ None) × (others ≡ None)
none_first index None others e = (refl, e)
none_first index (Some way) others e = absurd (none-some (index ∷ way) (sym e))

mutual
  has_way : (handle : ℕ) (step : StepTree) → In false (traversals handle false step) → way_in_step handle step ≡ None → ⊥
  has_way handle (Traverse action by inline) has none = traversed handle by action inline has none
  has_way handle (Sequence steps) has none = has_way_row handle 0 steps has none
  has_way handle (Parallel steps) has none = has_way_row handle 0 steps has none
  has_way handle (Schedule steps) has none = has_way_row handle 0 steps has none
  has_way handle (Joined parallel join steps) has none = has_way_row handle 0 steps has none
  has_way handle (Select bs) has none = no_false_branches handle bs has
  has_way handle (Repeat count body) has none = no_false handle body has
  has_way handle (If condition holds fails) has none =
      ⊎_elim (λ h. no_false handle holds h) (λ h. no_false_maybe handle fails h) (in_append (traversals handle true holds) (traversals_of_maybe handle fails) false has)
  has_way handle (Match value arms other) has none =
      ⊎_elim (λ h. no_false_arms handle arms h) (λ h. no_false_maybe handle other h) (in_append (traversals_of_arms handle arms) (traversals_of_maybe handle other) false has)

  has_way_row : (handle index : ℕ) (steps : StepRow) → In false (traversals_of_steps handle false steps) → way_in_row handle index steps ≡ None → ⊥
  has_way_row handle index NoSteps has none = has
  has_way_row handle index (MoreSteps step steps) has none =
      let both = none_first index (way_in_step handle step) (way_in_row handle (index + 1) steps) none in
      ⊎_elim (λ h. has_way handle step h both.0) (λ h. has_way_row handle (index + 1) steps h both.1) (in_append (traversals handle false step) (traversals_of_steps handle false steps) false has)

has_way_list : (handle index : ℕ) (steps : List StepTree) → In false (flat_map (traversals handle false) steps) → way_in handle index steps ≡ None → ⊥
has_way_list handle index [] has none = has
has_way_list handle index (step ∷ steps) has none =
    let both = none_first index (way_in_step handle step) (way_in handle (index + 1) steps) none in
    ⊎_elim (λ h. has_way handle step h both.0) (λ h. has_way_list handle (index + 1) steps h both.1) (in_append (traversals handle false step) (flat_map (traversals handle false) steps) false has)

steady_has : (handle : ℕ) (steps : List StepTree) → IsSteady handle steps → In false (flat_map (traversals handle false) steps)
steady_has handle steps steady = subst (In false) (sym steady) (inl refl)

-- ---- nodes along a way

-- a way from a list of nodes on
pub record IsWalk (nodes : List Node) (ys : List ℕ) (index : ℕ) (way : List ℕ) : Type 0 where
  pub place : ℕ
  pub rest : List ℕ
  pub is : way ≡ (index + place) ∷ rest
  pub child : ℕ
  pub at : slice_get ys place ≡ Some child
  pub last : ℕ
  pub there : node_on nodes child rest ≡ Some last

module _ (m : ModelTree) (nodes : List Node) (handle : ℕ) (c : Context) where
  ends : (n : ℕ) (way : List ℕ) (h : ℕ) (b : Bool) → (cond b no_steps None) ≡ Some way → (k : ℕ) × (node_on nodes n way ≡ Some k)
  ends n way h true e = (n, ap (node_on nodes n) (sym (same_Some [] way e)))
  ends n way h false e = absurd (none-some way e)

  on_walk : (n : ℕ) (way : List ℕ) → IsWalk nodes (children_of nodes n) 0 way → (k : ℕ) × (node_on nodes n way ≡ Some k)
  on_walk n way walk =
      let e : 0 + walk.place ≡ walk.place = omega arith in (
        walk.last,
        ap (node_on nodes n) (walk.is ∙ ap (λ i. i ∷ walk.rest) e)
            ∙ ap (option_and_then (λ child. node_on nodes child walk.rest)) walk.at ∙ walk.there,
      )

  by_first : (levels : ℕ) (index child : ℕ) (ys : List ℕ) (way : List ℕ) (o others : Option (List ℕ)) → first_way index o others ≡ Some way
      → ((w : List ℕ) → o ≡ Some w → (k : ℕ) × (node_on nodes child w ≡ Some k)) → (others ≡ Some way → IsWalk nodes ys (index + 1) way) → IsWalk nodes (child ∷ ys) index way
  by_first levels index child ys way None others e one rest =
      let r = rest e in
      let v : (index + 1) + r.place ≡ index + suc r.place = omega arith in
      record { place = suc r.place; rest = r.rest; is = r.is ∙ ap (λ i. i ∷ r.rest) v; child = r.child; at = r.at; last = r.last; there = r.there }
  by_first levels index child ys way (Some w) others e one rest =
      let k = one w refl in
      let v : index ≡ index + 0 = omega arith in
      record { place = 0; rest = w; is = sym (same_Some (index ∷ w) way e) ∙ ap (λ i. i ∷ w) v; child = child; at = refl; last = k.0; there = k.1 }

  mutual
    walk : (levels : ℕ) (step : StepTree) (n : ℕ) (way : List ℕ) → way_in_step handle step ≡ Some way → Stood m nodes levels (Statement c step) n → (k : ℕ) × (node_on nodes n way ≡ Some k)
    walk zero step n way e stood = absurd stood
    walk (suc levels) (Traverse action None inline) n way e stood = absurd (none-some way e)
    walk (suc levels) (Traverse action (Some h) inline) n way e stood = ends n way h (nat_eq h handle) e
    walk (suc levels) (Sequence steps) n way e (own, has, look, below, looks, stands, zips) =
        on_walk n way (walk_row levels steps 0 (children_of nodes n) way e (subst (λ b. AllZip (Stood m nodes levels) b (children_of nodes n)) stands.1 zips))
    walk (suc levels) (Parallel steps) n way e (own, has, look, below, looks, stands, zips) =
        on_walk n way (walk_row levels steps 0 (children_of nodes n) way e (subst (λ b. AllZip (Stood m nodes levels) b (children_of nodes n)) stands.1 zips))
    walk (suc levels) (Schedule steps) n way e (own, has, look, below, looks, stands, zips) =
        on_walk n way (walk_row levels steps 0 (children_of nodes n) way e (subst (λ b. AllZip (Stood m nodes levels) b (children_of nodes n)) stands.1 zips))
    walk (suc levels) (Joined parallel join steps) n way e (own, has, look, below, looks, stands, zips) =
        on_walk n way (walk_row levels steps 0 (children_of nodes n) way e (subst (λ b. AllZip (Stood m nodes levels) b (children_of nodes n)) stands.3 zips))
    walk (suc levels) (Select _) n way e stood = absurd (none-some way e)
    walk (suc levels) (Repeat count body) n way e stood = absurd (none-some way e)
    walk (suc levels) (If condition holds fails) n way e stood = absurd (none-some way e)
    walk (suc levels) (Match value arms other) n way e stood = absurd (none-some way e)

    walk_row : (levels : ℕ) (steps : StepRow) (index : ℕ) (ys way : List ℕ) → way_in_row handle index steps ≡ Some way → AllZip (Stood m nodes levels) (statements c (steps_of steps)) ys → IsWalk nodes ys index way
    walk_row levels NoSteps index ys way e zips = absurd (none-some way e)
    walk_row levels (MoreSteps step steps) index [] way e zips = absurd zips
    walk_row levels (MoreSteps step steps) index (y ∷ ys) way e zips =
        by_first levels index y ys way (way_in_step handle step) (way_in_row handle (index + 1) steps) e (λ w is. walk levels step y w is zips.0) (λ is. walk_row levels steps (index + 1) ys way is zips.1)

  walk_list : (levels : ℕ) (steps : List StepTree) (index : ℕ) (ys way : List ℕ) → way_in handle index steps ≡ Some way → AllZip (Stood m nodes levels) (statements c steps) ys → IsWalk nodes ys index way
  walk_list levels [] index ys way e zips = absurd (none-some way e)
  walk_list levels (step ∷ steps) index [] way e zips = absurd zips
  walk_list levels (step ∷ steps) index (y ∷ ys) way e zips =
      by_first levels index y ys way (way_in_step handle step) (way_in handle (index + 1) steps) e (λ w is. walk levels step y w is zips.0) (λ is. walk_list levels steps (index + 1) ys way is zips.1)

  by_way : (levels n : ℕ) (steps : List StepTree) (o : Option (List ℕ)) → way_in handle 0 steps ≡ o → (o ≡ None → ⊥) → AllZip (Stood m nodes levels) (statements c steps) (children_of nodes n)
      → (k : ℕ) × (option_and_then (node_on nodes n) o ≡ Some k)
  by_way levels n steps None is some zips = absurd (some refl)
  by_way levels n steps (Some way) is some zips = on_walk n way (walk_list levels steps 0 (children_of nodes n) way is zips)

  -- the node of a handle that is traversed once in the activity
  pub steady_node : (levels n : ℕ) (steps : List StepTree) → IsSteady handle steps → AllZip (Stood m nodes levels) (statements c steps) (children_of nodes n)
      → (k : ℕ) × (option_and_then (node_on nodes n) (way_in handle 0 steps) ≡ Some k)
  steady_node levels n steps steady zips =
      by_way levels n steps (way_in handle 0 steps) refl (λ none. has_way_list handle 0 steps (steady_has handle steps steady) none) zips
