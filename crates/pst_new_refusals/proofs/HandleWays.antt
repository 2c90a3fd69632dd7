-- The node of a handle that inline constraints name isn't touched, or none of these is refused.
use Rattle.std.proofs.Common.{◌≡◌, ◌⊎◌, ℕ, ℤ, zero, suc, ◌+◌, ◌<◌, List, [], ◌∷◌, length, cond, Bool, true, false, nat_eq, Option, Some, None, refl, sym, ap, ◌∙◌, subst, inl, inr, ⊎_elim, arith}
use Rattle.std.specs.Prelude.{slice_get}
use Rattle.std.specs.Option.{option_and_then}
use Rattle.std.proofs.lemmas.Bool.{cases_lt, false≢true, eqb-true}
use Rattle.std.proofs.lemmas.Option.{none-some, same_Some, option_and_then_some, slice_get_within}
use Rattle.pst_model.specs.ConstraintTree.{ConstraintTree}
use Rattle.pst_model.specs.ActivityTree.{StepTree, Traverse, Sequence, Parallel, Schedule, Joined, Select, Repeat, If, Match, StepRow, NoSteps, MoreSteps, ActivityTree, steps_of}
use Rattle.pst_model.specs.ModelTree.{ModelTree}
use Rattle.pst_scen.specs.declared.tree.Node.{Node}
use Rattle.pst_scen.specs.declared.tree.Fill.{Fill}
use Rattle.pst_scen.specs.declared.tree.Fill.TheVariants as fill
use Rattle.pst_scen.specs.declared.act.Act.{Act}
use Rattle.pst_scen.specs.declared.scenario.Scenario.{Scenario}
use Rattle.pst_legal.specs.Types.{action_activity}
use Rattle.pst_legal.specs.Statements.{children_of, IsBranch, step_below, StandsFor, AtTop, Below, first_way, way_in_step, way_in_row, way_in, node_on, handle_node}
use Rattle.pst_built.specs.Onward.{Each, MoreNode}
use Rattle.pst_built.proofs.Members.{In, none_any}
use Rattle.pst_slots.proofs.Kept.{all_found, stands_at}
use Rattle.pst_refusals.specs.Answers.{StandEarlier}
use Rattle.pst_touched.specs.Touched.{IsTouched, HasTouched}
use Rattle.pst_touched.proofs.Untouched.{has_or, untouched_down}
use Rattle.pst_new_refusals.specs.Settled.{names_at, is_sequence, is_parallel, is_schedule, is_joined, AreLookingFree, IsSettled, IsSettledAt, AreSettled}

-- ---- ways

record WayIn (handle : ℕ) (steps : List StepTree) (index : ℕ) (way : List ℕ) : Type 0 where
  place : ℕ
  step : StepTree
  rest : List ℕ
  at : slice_get steps place ≡ Some step
  leads : way_in_step handle step ≡ Some rest
  is : way ≡ (index + place) ∷ rest

by_first : (handle : ℕ) (step : StepTree) (steps : List StepTree) (index : ℕ) (way : List ℕ) (o others : Option (List ℕ)) → way_in_step handle step ≡ o → first_way index o others ≡ Some way
    → (others ≡ Some way → WayIn handle steps (index + 1) way) → WayIn handle (step ∷ steps) index way
by_first handle step steps index way None others leads e rest =
    let r = rest e in
    let v : (index + 1) + r.place ≡ index + suc r.place = omega arith in
    record { place = suc r.place; step = r.step; rest = r.rest; at = r.at; leads = r.leads; is = r.is ∙ ap (λ i. i ∷ r.rest) v }
by_first handle step steps index way (Some w) others leads e rest =
    let v : index ≡ index + 0 = omega arith in
    record { place = 0; step = step; rest = w; at = refl; leads = leads; is = sym (same_Some (index ∷ w) way e) ∙ ap (λ i. i ∷ w) v }

in_list : (handle index : ℕ) (steps : List StepTree) (way : List ℕ) → way_in handle index steps ≡ Some way → WayIn handle steps index way
in_list handle index [] way e = absurd (none-some way e)
in_list handle index (step ∷ steps) way e = by_first handle step steps index way (way_in_step handle step) (way_in handle (index + 1) steps) refl e (λ is. in_list handle (index + 1) steps way is)

in_row : (handle index : ℕ) (rows : StepRow) (way : List ℕ) → way_in_row handle index rows ≡ Some way → WayIn handle (steps_of rows) index way
in_row handle index NoSteps way e = absurd (none-some way e)
in_row handle index (MoreSteps step rows) way e =
    by_first handle step (steps_of rows) index way (way_in_step handle step) (way_in_row handle (index + 1) rows) refl e (λ is. in_row handle (index + 1) rows way is)

branch_of : (nodes : List Node) (n place k : ℕ) (rest : List ℕ) → node_on nodes n (place ∷ rest) ≡ Some k → (child : ℕ) × IsBranch nodes n place child × (node_on nodes child rest ≡ Some k)
branch_of nodes n place k rest e = option_and_then_some (λ child. node_on nodes child rest) (slice_get (children_of nodes n) place) k e (λ child at on. (child, at, on))

-- ---- a node that fills its block

sequence_fits : (f : Fill) (rows : StepRow) (i : ℕ) → is_sequence f ≡ true → step_below f (Sequence rows) i ≡ slice_get (steps_of rows) i
sequence_fits fill.Sequence rows i e = refl
sequence_fits _ rows i e = absurd (false≢true e)

parallel_fits : (f : Fill) (rows : StepRow) (i : ℕ) → is_parallel f ≡ true → step_below f (Parallel rows) i ≡ slice_get (steps_of rows) i
parallel_fits fill.Parallel rows i e = refl
parallel_fits _ rows i e = absurd (false≢true e)

schedule_fits : (f : Fill) (rows : StepRow) (i : ℕ) → is_schedule f ≡ true → step_below f (Schedule rows) i ≡ slice_get (steps_of rows) i
schedule_fits fill.Schedule rows i e = refl
schedule_fits _ rows i e = absurd (false≢true e)

joined_fits : (f : Fill) (parallel : Bool) (join : _) (rows : StepRow) (i : ℕ) → is_joined f ≡ true → step_below f (Joined parallel join rows) i ≡ slice_get (steps_of rows) i
joined_fits (fill.Joined _ _) parallel join rows i e = refl
joined_fits _ parallel join rows i e = absurd (false≢true e)

-- ---- along a way

module _ (m : ModelTree) (old : List Node) (u : Scenario) (from : ℕ) (fresh : List Act)
    (nodes : (n : ℕ) (node : Node) → n < from → slice_get u.nodes n ≡ Some node → slice_get old n ≡ Some node)
    (more : Each MoreNode old u.nodes) (earlier : StandEarlier u.nodes) (list : List ℕ) (all : HasTouched u.nodes from fresh list)
    (named : List (List ℕ)) (settled : AreSettled m u named from list)
    (top handle : ℕ) (names : In handle (names_at named (slice_get u.nodes top))) where
  abbrev IsUntouched : ℕ → Type 0
  IsUntouched n = IsTouched u.nodes from fresh n → ⊥

  abbrev AreFree : Type 0
  AreFree = AreLookingFree m u top handle (length u.nodes)

  down : (way : List ℕ) (n k : ℕ) → IsUntouched n → node_on u.nodes n way ≡ Some k → IsUntouched k
  down [] n k not_touched is = subst IsUntouched (same_Some n k is) not_touched
  down (index ∷ way) n k not_touched is =
      option_and_then_some (λ child. node_on u.nodes child way) (slice_get (children_of u.nodes n) index) k is
      (λ child at rest. down way child k (untouched_down old u.nodes from fresh nodes more n index child not_touched at) rest)

  -- a node wasn't touched, or it is looked at
  looked : (n : ℕ) (node : Node) → slice_get u.nodes n ≡ Some node → IsUntouched n ⊎ IsSettledAt m u named n
  looked n node is =
      ⊎_elim
      (λ below. ⊎_elim (λ there. inr (settled.old n there)) (λ without. inl (λ touched. without (all n below touched))) (has_or list n))
      (λ above. inr (settled.new n above (slice_get_within u.nodes n node is)))
      (cases_lt n from)

  settled_step : (n : ℕ) (node : Node) (step : StepTree) (indices : List ℕ) → slice_get u.nodes n ≡ Some node → StandsFor m u.nodes top n step indices
      → IsUntouched n ⊎ IsSettled m u (names_at named (slice_get u.nodes top)) top node.fill step
  settled_step n node step indices is stands =
      ⊎_elim (λ not_touched. inl not_touched)
      (λ at. inr (at earlier node (record { top = top; step = step; indices = indices }) is (all_found m u.nodes earlier n top step indices stands)))
      (looked n node is)

  -- from the node of a statement on
  abbrev Claim : StepTree → Type 0
  Claim step = (n k : ℕ) (way indices : List ℕ) → way_in_step handle step ≡ Some way → StandsFor m u.nodes top n step indices → node_on u.nodes n way ≡ Some k → IsUntouched k ⊎ AreFree

  ends : (action other : ℕ) (inline : List ConstraintTree) (n k : ℕ) (way indices : List ℕ) (b : Bool) → nat_eq other handle ≡ b → cond b (Some []) None ≡ Some way → StandsFor m u.nodes top n (Traverse action (Some other) inline) indices
      → node_on u.nodes n way ≡ Some k → IsUntouched k ⊎ AreFree
  ends action other inline n k way indices false is e stands on = absurd (none-some way e)
  ends action other inline n k way indices true is e stands on =
      let at = stands_at m u.nodes top stands in
      let none : [] ≡ way = same_Some [] way e in
      let here : n ≡ k = same_Some n k (ap (node_on u.nodes n) none ∙ on) in
      let same : other ≡ handle = eqb-true other handle is in
      ⊎_elim (λ not_touched. inl (subst IsUntouched here not_touched))
      (λ (by : IsSettled m u (names_at named (slice_get u.nodes top)) top at.0.fill (Traverse action (Some other) inline)).
      ⊎_elim (λ without. absurd (false≢true (sym (none_any (nat_eq other) (names_at named (slice_get u.nodes top)) handle without names) ∙ is)))
      (λ free. inr (subst (λ h. AreLookingFree m u top h (length u.nodes)) same free)) by)
      (settled_step n at.0 (Traverse action (Some other) inline) indices at.1 stands)

  further : (block : StepTree) (rows : StepRow) (n k : ℕ) (way indices : List ℕ) → way_in_row handle 0 rows ≡ Some way → StandsFor m u.nodes top n block indices → node_on u.nodes n way ≡ Some k
      → ((f : Fill) (i : ℕ) → IsSettled m u (names_at named (slice_get u.nodes top)) top f block → step_below f block i ≡ slice_get (steps_of rows) i)
      → ((place : ℕ) (step : StepTree) → slice_get (steps_of rows) place ≡ Some step → Claim step) → IsUntouched k ⊎ AreFree
  further block rows n k way indices leads stands on fits each =
      let at = stands_at m u.nodes top stands in
      let w = in_row handle 0 rows way leads in
      let v : 0 + w.place ≡ w.place = omega arith in
      let b = branch_of u.nodes n w.place k w.rest (sym (ap (node_on u.nodes n) (w.is ∙ ap (λ i. i ∷ w.rest) v)) ∙ on) in
      ⊎_elim (λ not_touched. inl (down way n k not_touched on))
      (λ (by : IsSettled m u (names_at named (slice_get u.nodes top)) top at.0.fill block).
      each w.place w.step w.at b.0 k w.rest indices w.leads (Below b.0 n w.place at.0 block w.step indices stands at.1 b.1 (fits at.0.fill w.place by ∙ w.at)) b.2)
      (settled_step n at.0 block indices at.1 stands)

  mutual
    walk : (step : StepTree) → Claim step
    walk (Traverse action None inline) n k way indices leads stands on = absurd (none-some way leads)
    walk (Traverse action (Some other) inline) n k way indices leads stands on = ends action other inline n k way indices (nat_eq other handle) refl leads stands on
    walk (Sequence rows) n k way indices leads stands on = further (Sequence rows) rows n k way indices leads stands on (λ f i e. sequence_fits f rows i e) (walk_row rows)
    walk (Parallel rows) n k way indices leads stands on = further (Parallel rows) rows n k way indices leads stands on (λ f i e. parallel_fits f rows i e) (walk_row rows)
    walk (Schedule rows) n k way indices leads stands on = further (Schedule rows) rows n k way indices leads stands on (λ f i e. schedule_fits f rows i e) (walk_row rows)
    walk (Joined parallel join rows) n k way indices leads stands on = further (Joined parallel join rows) rows n k way indices leads stands on (λ f i e. joined_fits f parallel join rows i e) (walk_row rows)
    walk (Select _) n k way indices leads stands on = absurd (none-some way leads)
    walk (Repeat count body) n k way indices leads stands on = absurd (none-some way leads)
    walk (If condition holds fails) n k way indices leads stands on = absurd (none-some way leads)
    walk (Match value arms other) n k way indices leads stands on = absurd (none-some way leads)

    walk_row : (rows : StepRow) (place : ℕ) (step : StepTree) → slice_get (steps_of rows) place ≡ Some step → Claim step
    walk_row NoSteps place step at = absurd (none-some step at)
    walk_row (MoreSteps first rows) zero step at = subst Claim (same_Some first step at) (walk first)
    walk_row (MoreSteps first rows) (suc place) step at = walk_row rows place step at

  pub handle_untouched : (node : Node) (action instance : ℕ) (fields : List ℤ) → slice_get u.nodes top ≡ Some node → node.fill ≡ fill.Compound action instance fields → (k : ℕ) → handle_node m u.nodes top action handle ≡ Some k → IsUntouched k ⊎ AreFree
  handle_untouched node action instance fields is of k there =
      option_and_then_some (λ (activity : ActivityTree). option_and_then (node_on u.nodes top) (way_in handle 0 activity.steps)) (action_activity m action) k there
      (λ activity has found. option_and_then_some (node_on u.nodes top) (way_in handle 0 activity.steps) k found
      (λ way leads on.
      let w = in_list handle 0 activity.steps way leads in
      let v : 0 + w.place ≡ w.place = omega arith in
      let b = branch_of u.nodes top w.place k w.rest (sym (ap (node_on u.nodes top) (w.is ∙ ap (λ i. i ∷ w.rest) v)) ∙ on) in
      walk w.step b.0 k w.rest [] w.leads (AtTop b.0 w.place action instance fields activity node w.step is of has b.1 w.at) b.2))
