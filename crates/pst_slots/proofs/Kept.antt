-- A statement that a node stands for is found from the node up.
use Rattle.std.proofs.Common.{◌≡◌, ℕ, zero, suc, ◌<◌, List, [], length, Option, Some, refl, ap, ◌∙◌, subst, arith}
use Rattle.std.specs.Prelude.{slice_get}
use Rattle.std.specs.Option.{option_map, option_and_then}
use Rattle.std.proofs.lemmas.Option.{none-some, slice_get_within}
use Rattle.pst_model.specs.ActivityTree.{StepTree, ActivityTree}
use Rattle.pst_model.specs.ModelTree.{ModelTree}
use Rattle.pst_scen.specs.declared.tree.Node.{Node}
use Rattle.pst_scen.specs.declared.tree.Fill.{Fill}
use Rattle.pst_scen.specs.declared.tree.Fill.TheVariants as fill
use Rattle.pst_scen.specs.Tree.{IsChild}
use Rattle.pst_legal.specs.Statements.{StandsFor, AtTop, Below, InTurn, IsBranch, step_below}
use Rattle.pst_slots.specs.Stated.{Stated, parent_of, place_in, at_place, part_at, repeated_in, below, below_node, stated_within, statement_of}
use Rattle.pst_slots.proofs.Children.{kid_at}

parent_is : (nodes : List Node) (n parent : ℕ) → IsChild nodes n parent → parent_of nodes n ≡ Some parent
parent_is nodes n parent child = ap (option_and_then (λ (node : Node). node.parent)) child.is ∙ child.in_parent

child_at : (nodes : List Node) (parent index n : ℕ) → IsBranch nodes parent index n → IsChild nodes n parent
child_at nodes parent index n branch =
    let kid = kid_at 0 nodes parent index n branch in
    let same : kid.place ≡ n = omega (arith, kid.number) in
    record { node = kid.node; is = subst (λ k. slice_get nodes k ≡ Some kid.node) same kid.is; in_parent = kid.in_parent }

module _ (m : ModelTree) (nodes : List Node) where
  -- one level up
  up_one : (levels n parent : ℕ) (node : Node) (f : Fill) → parent_of nodes n ≡ Some parent → slice_get nodes parent ≡ Some node → node.fill ≡ f
      → stated_within m nodes (suc levels) n ≡ below m nodes (stated_within m nodes levels) n parent f
  up_one levels n parent node f in_it is of =
      ap (option_and_then (below_node m nodes (stated_within m nodes levels) n)) in_it
      ∙ ap (option_and_then (λ (x : Node). below m nodes (stated_within m nodes levels) n parent x.fill)) is
      ∙ ap (below m nodes (stated_within m nodes levels) n parent) of

  -- a node that fills a part of a statement is no action and no turn
  as_part : (stated : ℕ → Option Stated) (n parent index : ℕ) (f : Fill) (above step : StepTree) → step_below f above index ≡ Some step
      → below m nodes stated n parent f ≡ option_and_then (λ x. option_and_then (part_at f x) (place_in nodes parent n)) (stated parent)
  as_part stated n parent index (fill.Compound action instance fields) above step e = absurd (none-some step e)
  as_part stated n parent index (fill.Turn turn) above step e = absurd (none-some step e)
  as_part stated n parent index (fill.Leaf act) above step e = refl
  as_part stated n parent index fill.Sequence above step e = refl
  as_part stated n parent index fill.Parallel above step e = refl
  as_part stated n parent index fill.Schedule above step e = refl
  as_part stated n parent index (fill.Joined parallel joined) above step e = refl
  as_part stated n parent index (fill.Select branch) above step e = refl
  as_part stated n parent index fill.Repeat above step e = refl
  as_part stated n parent index (fill.If taken) above step e = refl
  as_part stated n parent index (fill.Match arm) above step e = refl

  module _ (earlier : (n parent : ℕ) (node : Node) → slice_get nodes n ≡ Some node → node.parent ≡ Some parent → parent < n) where
    less : (n parent : ℕ) → IsChild nodes n parent → parent < n
    less n parent child = earlier n parent child.node child.is child.in_parent

    pub kept : (levels top : ℕ) {n : ℕ} {step : StepTree} {indices : List ℕ} → StandsFor m nodes top n step indices → n < levels
        → stated_within m nodes levels n ≡ Some (record { top = top; step = step; indices = indices })
    kept zero top stands l = absurd (omega (arith, l))
    kept (suc levels) top (AtTop n index action instance fields activity node step is leaf has branch at) l =
        up_one levels n top node (fill.Compound action instance fields) (parent_is nodes n top (child_at nodes top index n branch)) is leaf
        ∙ ap (option_and_then (at_place m top action)) (kid_at 0 nodes top index n branch).at
        ∙ ap (option_and_then (λ (x : ActivityTree). option_map (λ s. record { top = top; step = s; indices = [] }) (slice_get x.steps index))) has
        ∙ ap (option_map (λ s. record { top = top; step = s; indices = [] })) at
    kept (suc levels) top (Below n parent index node above step indices over is branch at) l =
        let child = child_at nodes parent index n branch in
        let lower = less n parent child in
        up_one levels n parent node node.fill (parent_is nodes n parent child) is refl
        ∙ as_part (stated_within m nodes levels) n parent index node.fill above step at
        ∙ ap (option_and_then (λ x. option_and_then (part_at node.fill x) (place_in nodes parent n))) (kept levels top over (omega (arith, l, lower)))
        ∙ ap (option_and_then (part_at node.fill (record { top = top; step = above; indices = indices }))) (kid_at 0 nodes parent index n branch).at
        ∙ ap (option_map (λ s. record { top = top; step = s; indices = indices })) at
    kept (suc levels) top (InTurn n turn parent index node count body round over in_parent is of in_turn_of) l =
        let one = less n turn in_turn_of in
        let two = less turn parent in_parent in
        up_one levels n turn node (fill.Turn index) (parent_is nodes n turn in_turn_of) is of
        ∙ ap (λ o. option_and_then (repeated_in index) (option_and_then (stated_within m nodes levels) o)) (parent_is nodes turn parent in_parent)
        ∙ ap (option_and_then (repeated_in index)) (kept levels top over (omega (arith, l, one, two)))

-- the node that stands for a statement
pub stands_at : (m : ModelTree) (nodes : List Node) (top : ℕ) {n : ℕ} {step : StepTree} {indices : List ℕ} → StandsFor m nodes top n step indices → (node : Node) × (slice_get nodes n ≡ Some node)
stands_at m nodes top (AtTop n index action instance fields activity node step is leaf has branch at) =
    let child = child_at nodes top index n branch in (child.node, child.is)
stands_at m nodes top (Below n parent index node above step indices over is branch at) =
    let child = child_at nodes parent index n branch in (child.node, child.is)
stands_at m nodes top (InTurn n turn parent index node count body round over in_parent is of in_it) = (in_it.node, in_it.is)

pub all_found : (m : ModelTree) (nodes : List Node) → ((n parent : ℕ) (node : Node) → slice_get nodes n ≡ Some node → node.parent ≡ Some parent → parent < n)
    → (n top : ℕ) (step : StepTree) (indices : List ℕ) → StandsFor m nodes top n step indices → statement_of m nodes n ≡ Some (record { top = top; step = step; indices = indices })
all_found m nodes earlier n top step indices stands =
    let at = stands_at m nodes top stands in
    kept m nodes earlier (length nodes) top stands (slice_get_within nodes n at.0 at.1)
