-- The statement of a node, from that of the node round it.
use Rattle.std.proofs.Common.{◌≡◌, ℕ, suc, ◌-◌, ◌<◌, List, Option, Some, None, refl, sym, ap, ◌∙◌, arith}
use Rattle.std.specs.Prelude.{slice_get}
use Rattle.std.specs.Option.{option_and_then}
use Rattle.pst_model.specs.ModelTree.{ModelTree}
use Rattle.pst_scen.specs.declared.tree.Node.{Node}
use Rattle.pst_scen.specs.declared.tree.Fill.{Fill}
use Rattle.pst_scen.specs.declared.tree.Fill.TheVariants as fill
use Rattle.pst_slots.specs.Stated.{Stated, parent_of, at_place, part_at, repeated_in}
use Rattle.pst_refusals.specs.Within.{below_by, below_node_by, stated_by}

module _ (m : ModelTree) (nodes : List Node) (place : ℕ → ℕ → Option ℕ) where
  up_one : (levels n parent : ℕ) (node : Node) (f : Fill) → parent_of nodes n ≡ Some parent → slice_get nodes parent ≡ Some node → node.fill ≡ f
      → stated_by m nodes place (suc levels) n ≡ below_by m nodes place (stated_by m nodes place levels) n parent f
  up_one levels n parent node f in_it is of =
      ap (option_and_then (below_node_by m nodes place (stated_by m nodes place levels) n)) in_it
      ∙ ap (option_and_then (λ (x : Node). below_by m nodes place (stated_by m nodes place levels) n parent x.fill)) is
      ∙ ap (below_by m nodes place (stated_by m nodes place levels) n parent) of

  up : (levels n parent : ℕ) (node : Node) (f : Fill) → 0 < levels → parent_of nodes n ≡ Some parent → slice_get nodes parent ≡ Some node → node.fill ≡ f
      → stated_by m nodes place levels n ≡ below_by m nodes place (stated_by m nodes place (levels - 1)) n parent f
  up levels n parent node f some in_it is of =
      let e : levels ≡ suc (levels - 1) = omega (arith, some) in
      ap (λ k. stated_by m nodes place k n) e ∙ up_one (levels - 1) n parent node f in_it is of

  pub within_top : (levels n parent action instance : ℕ) (fields : List _) (node : Node) → 0 < levels → parent_of nodes n ≡ Some parent → slice_get nodes parent ≡ Some node → node.fill ≡ fill.Compound action instance fields
      → option_and_then (at_place m parent action) (place n parent) ≡ stated_by m nodes place levels n
  within_top levels n parent action instance fields node some in_it is of = sym (up levels n parent node (fill.Compound action instance fields) some in_it is of)

  pub within_turn : (levels n parent index : ℕ) (node : Node) → 0 < levels → parent_of nodes n ≡ Some parent → slice_get nodes parent ≡ Some node → node.fill ≡ fill.Turn index
      → option_and_then (repeated_in index) (option_and_then (stated_by m nodes place (levels - 1)) (parent_of nodes parent)) ≡ stated_by m nodes place levels n
  within_turn levels n parent index node some in_it is of = sym (up levels n parent node (fill.Turn index) some in_it is of)

  part_is : (stated : ℕ → Option Stated) (n parent : ℕ) (f : Fill) → ((action instance : ℕ) (fields : List _) → f ≡ fill.Compound action instance fields → ⊥) → ((index : ℕ) → f ≡ fill.Turn index → ⊥)
      → below_by m nodes place stated n parent f ≡ option_and_then (λ above. option_and_then (part_at f above) (place n parent)) (stated parent)
  part_is stated n parent (fill.Compound action instance fields) one other = absurd (one action instance fields refl)
  part_is stated n parent (fill.Turn index) one other = absurd (other index refl)
  part_is stated n parent (fill.Leaf act) one other = refl
  part_is stated n parent fill.Sequence one other = refl
  part_is stated n parent fill.Parallel one other = refl
  part_is stated n parent fill.Schedule one other = refl
  part_is stated n parent (fill.Joined parallel joined) one other = refl
  part_is stated n parent (fill.Select branch) one other = refl
  part_is stated n parent fill.Repeat one other = refl
  part_is stated n parent (fill.If taken) one other = refl
  part_is stated n parent (fill.Match arm) one other = refl

  pub within_part : (levels n parent : ℕ) (node : Node) (f : Fill) → 0 < levels → parent_of nodes n ≡ Some parent → slice_get nodes parent ≡ Some node → node.fill ≡ f
      → ((action instance : ℕ) (fields : List _) → f ≡ fill.Compound action instance fields → ⊥) → ((index : ℕ) → f ≡ fill.Turn index → ⊥)
      → option_and_then (λ above. option_and_then (part_at f above) (place n parent)) (stated_by m nodes place (levels - 1) parent) ≡ stated_by m nodes place levels n
  within_part levels n parent node f some in_it is of one other = sym (up levels n parent node f some in_it is of ∙ part_is (stated_by m nodes place (levels - 1)) n parent f one other)

  no_part : (above : Option Stated) (at : Option ℕ) → option_and_then (λ x. option_and_then (part_at fill.Repeat x) at) above ≡ None
  no_part None at = refl
  no_part (Some x) None = refl
  no_part (Some x) (Some index) = refl

  -- what stands in a repetition are its turns
  pub within_repeat : (levels n parent : ℕ) (node : Node) → 0 < levels → parent_of nodes n ≡ Some parent → slice_get nodes parent ≡ Some node → node.fill ≡ fill.Repeat → stated_by m nodes place levels n ≡ None
  within_repeat levels n parent node some in_it is of = up levels n parent node fill.Repeat some in_it is of ∙ no_part (stated_by m nodes place (levels - 1) parent) (place n parent)
