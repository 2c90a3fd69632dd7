-- What is found from a node up is a statement that the node stands for.
use Rattle.std.proofs.Common.{◌≡◌, ℕ, zero, suc, List, [], ◌∷◌, ◌++◌, Option, Some, refl, ap, ◌∙◌, subst}
use Rattle.std.specs.Prelude.{slice_get}
use Rattle.std.specs.Option.{option_map, option_and_then}
use Rattle.std.proofs.lemmas.Option.{none-some, same_Some, option_and_then_some}
use Rattle.pst_model.specs.ConstraintTree.{ConstraintTree}
use Rattle.pst_model.specs.ActivityTree.{StepTree, Traverse, Sequence, Parallel, Schedule, Joined, Select, Repeat, If, Match, ActivityTree}
use Rattle.pst_model.specs.ModelTree.{ModelTree}
use Rattle.pst_scen.specs.declared.tree.Node.{Node}
use Rattle.pst_scen.specs.declared.tree.Fill.{Fill}
use Rattle.pst_scen.specs.declared.tree.Fill.TheVariants as fill
use Rattle.pst_scen.specs.Tree.{IsChild}
use Rattle.pst_legal.specs.Types.{action_activity}
use Rattle.pst_legal.specs.Statements.{StandsFor, AtTop, Below, InTurn, children_of, step_below}
use Rattle.pst_slots.specs.Stated.{Stated, parent_of, place_in, at_place, part_at, repeated, repeated_in, below, below_node, stated_within}
use Rattle.pst_slots.proofs.Children.{behind, at_its_place}

repeated_is : (step body : StepTree) → repeated step ≡ Some body → (count : ConstraintTree) × (step ≡ Repeat count body)
repeated_is (Repeat count inner) body e = (count, ap (Repeat count) (same_Some inner body e))
repeated_is (Traverse action handle inline) body e = absurd (none-some body e)
repeated_is (Sequence steps) body e = absurd (none-some body e)
repeated_is (Parallel steps) body e = absurd (none-some body e)
repeated_is (Schedule steps) body e = absurd (none-some body e)
repeated_is (Joined parallel join steps) body e = absurd (none-some body e)
repeated_is (Select branches) body e = absurd (none-some body e)
repeated_is (If condition holds fails) body e = absurd (none-some body e)
repeated_is (Match value arms other) body e = absurd (none-some body e)

pub child_by : (nodes : List Node) (n parent : ℕ) → parent_of nodes n ≡ Some parent → IsChild nodes n parent
child_by nodes n parent e = option_and_then_some (λ (node : Node). node.parent) (slice_get nodes n) parent e (λ node is of. record { node = node; is = is; in_parent = of })

module _ (m : ModelTree) (nodes : List Node) where
  abbrev Stands : ℕ → Stated → Type 0
  Stands n x = StandsFor m nodes x.top n x.step x.indices

  at_top : (n parent action instance : ℕ) (fields : List _) (node : Node) (x : Stated) → slice_get nodes parent ≡ Some node → node.fill ≡ fill.Compound action instance fields
      → option_and_then (at_place m parent action) (place_in nodes parent n) ≡ Some x → Stands n x
  at_top n parent action instance fields node x is leaf e =
      option_and_then_some (at_place m parent action) (place_in nodes parent n) x e
      (λ index place at. option_and_then_some
      (λ (activity : ActivityTree). option_map (λ step. record { top = parent; step = step; indices = [] }) (slice_get activity.steps index)) (action_activity m action) x at
      (λ activity has got.
      let b = behind (λ step. record { top = parent; step = step; indices = [] }) (slice_get activity.steps index) x got in
      subst (Stands n) b.2 (AtTop n index action instance fields activity node b.0 is leaf has (at_its_place n (children_of nodes parent) index place) b.1)))

  part : (n parent : ℕ) (node : Node) (stated : ℕ → Option Stated) (x : Stated) (f : Fill) → slice_get nodes parent ≡ Some node → node.fill ≡ f → ((k : ℕ) (y : Stated) → stated k ≡ Some y → Stands k y)
      → option_and_then (λ above. option_and_then (part_at f above) (place_in nodes parent n)) (stated parent) ≡ Some x → Stands n x
  part n parent node stated x f is of each e =
      option_and_then_some (λ above. option_and_then (part_at f above) (place_in nodes parent n)) (stated parent) x e
      (λ above up got. option_and_then_some (part_at f above) (place_in nodes parent n) x got
      (λ index place at.
      let b = behind (λ step. record above { step = step }) (step_below f above.step index) x at in
      let below_it : step_below node.fill above.step index ≡ Some b.0 = ap (λ g. step_below g above.step index) of ∙ b.1 in
      subst (Stands n) b.2 (Below n parent index node above.step b.0 above.indices (each parent above up) is (at_its_place n (children_of nodes parent) index place) below_it)))

  turn : (n parent index : ℕ) (node : Node) (stated : ℕ → Option Stated) (x : Stated) → slice_get nodes parent ≡ Some node → node.fill ≡ fill.Turn index → parent_of nodes n ≡ Some parent
      → ((k : ℕ) (y : Stated) → stated k ≡ Some y → Stands k y)
      → option_and_then (repeated_in index) (option_and_then stated (parent_of nodes parent)) ≡ Some x → Stands n x
  turn n parent index node stated x is of in_it each e =
      option_and_then_some (repeated_in index) (option_and_then stated (parent_of nodes parent)) x e
      (λ above up got. option_and_then_some stated (parent_of nodes parent) above up
      (λ over in_over at.
      let b = behind (λ body. record { top = above.top; step = body; indices = above.indices ++ index ∷ [] }) (repeated above.step) x got in
      let r = repeated_is above.step b.0 b.1 in
      let repeats : StandsFor m nodes above.top over (Repeat r.0 b.0) above.indices = subst (λ step. StandsFor m nodes above.top over step above.indices) r.1 (each over above at) in
      subst (Stands n) b.2 (InTurn n parent over index node r.0 b.0 above.indices repeats (child_by nodes parent over in_over) is of (child_by nodes n parent in_it))))

  by_fill : (n parent : ℕ) (node : Node) (stated : ℕ → Option Stated) (x : Stated) (f : Fill) → slice_get nodes parent ≡ Some node → node.fill ≡ f → parent_of nodes n ≡ Some parent
      → ((k : ℕ) (y : Stated) → stated k ≡ Some y → Stands k y) → below m nodes stated n parent f ≡ Some x → Stands n x
  by_fill n parent node stated x (fill.Compound action instance fields) is of in_it each e = at_top n parent action instance fields node x is of e
  by_fill n parent node stated x (fill.Turn index) is of in_it each e = turn n parent index node stated x is of in_it each e
  by_fill n parent node stated x (fill.Leaf act) is of in_it each e = part n parent node stated x (fill.Leaf act) is of each e
  by_fill n parent node stated x fill.Sequence is of in_it each e = part n parent node stated x fill.Sequence is of each e
  by_fill n parent node stated x fill.Parallel is of in_it each e = part n parent node stated x fill.Parallel is of each e
  by_fill n parent node stated x fill.Schedule is of in_it each e = part n parent node stated x fill.Schedule is of each e
  by_fill n parent node stated x (fill.Joined parallel joined) is of in_it each e = part n parent node stated x (fill.Joined parallel joined) is of each e
  by_fill n parent node stated x (fill.Select branch) is of in_it each e = part n parent node stated x (fill.Select branch) is of each e
  by_fill n parent node stated x fill.Repeat is of in_it each e = part n parent node stated x fill.Repeat is of each e
  by_fill n parent node stated x (fill.If taken) is of in_it each e = part n parent node stated x (fill.If taken) is of each e
  by_fill n parent node stated x (fill.Match arm) is of in_it each e = part n parent node stated x (fill.Match arm) is of each e

  pub found : (levels n : ℕ) (x : Stated) → stated_within m nodes levels n ≡ Some x → StandsFor m nodes x.top n x.step x.indices
  found zero n x e = absurd (none-some x e)
  found (suc levels) n x e =
      option_and_then_some (below_node m nodes (stated_within m nodes levels) n) (parent_of nodes n) x e
      (λ parent in_it got. option_and_then_some (λ (node : Node). below m nodes (stated_within m nodes levels) n parent node.fill) (slice_get nodes parent) x got
      (λ node is at. by_fill n parent node (stated_within m nodes levels) x node.fill is refl in_it (λ k y up. found levels k y up) at))
