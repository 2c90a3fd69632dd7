-- The statement of a node is the same by any places that are those of the nodes in their parents.
use Rattle.std.proofs.Common.{◌≡◌, ℕ, zero, suc, ◌<◌, List, length, Option, Some, None, refl, ap, ap₂}
use Rattle.std.specs.Prelude.{slice_get}
use Rattle.std.specs.Option.{option_and_then}
use Rattle.std.proofs.lemmas.Option.{slice_get_within}
use Rattle.pst_model.specs.ModelTree.{ModelTree}
use Rattle.pst_scen.specs.declared.tree.Node.{Node}
use Rattle.pst_scen.specs.declared.tree.Fill.{Fill}
use Rattle.pst_scen.specs.declared.tree.Fill.TheVariants as fill
use Rattle.pst_slots.specs.Stated.{Stated, parent_of, place_in, at_place, part_at, repeated_in, below, below_node, stated_within}
use Rattle.pst_refusals.specs.Answers.{StandEarlier}
use Rattle.pst_refusals.specs.Places.{ArePlaces, place_by}
use Rattle.pst_refusals.specs.Within.{below_by, below_node_by, stated_by}
use Rattle.pst_refusals.proofs.Counting.{behind_place}

module _ (m : ModelTree) (nodes : List Node) (place : ℕ → ℕ → Option ℕ) (are : (n parent : ℕ) → parent_of nodes n ≡ Some parent → parent < length nodes → place n parent ≡ place_in nodes parent n) where
  over : (one other : ℕ → Option Stated) → ((k : ℕ) → one k ≡ other k) → (o : Option ℕ) → option_and_then one o ≡ option_and_then other o
  over one other same None = refl
  over one other same (Some k) = same k

  part : (one other : ℕ → Option Stated) → ((k : ℕ) → one k ≡ other k) → (n parent : ℕ) (f : Fill) → place n parent ≡ place_in nodes parent n
      → option_and_then (λ above. option_and_then (part_at f above) (place n parent)) (one parent) ≡ option_and_then (λ above. option_and_then (part_at f above) (place_in nodes parent n)) (other parent)
  part one other same n parent f at = ap₂ (λ (p : Option ℕ) (o : Option Stated). option_and_then (λ above. option_and_then (part_at f above) p) o) at (same parent)

  same_below : (one other : ℕ → Option Stated) → ((k : ℕ) → one k ≡ other k) → (n parent : ℕ) (f : Fill) → place n parent ≡ place_in nodes parent n → below_by m nodes place one n parent f ≡ below m nodes other n parent f
  same_below one other same n parent (fill.Compound action instance fields) at = ap (option_and_then (at_place m parent action)) at
  same_below one other same n parent (fill.Turn index) at = ap (option_and_then (repeated_in index)) (over one other same (parent_of nodes parent))
  same_below one other same n parent (fill.Leaf act) at = part one other same n parent (fill.Leaf act) at
  same_below one other same n parent fill.Sequence at = part one other same n parent fill.Sequence at
  same_below one other same n parent fill.Parallel at = part one other same n parent fill.Parallel at
  same_below one other same n parent fill.Schedule at = part one other same n parent fill.Schedule at
  same_below one other same n parent (fill.Joined parallel joined) at = part one other same n parent (fill.Joined parallel joined) at
  same_below one other same n parent (fill.Select branch) at = part one other same n parent (fill.Select branch) at
  same_below one other same n parent fill.Repeat at = part one other same n parent fill.Repeat at
  same_below one other same n parent (fill.If taken) at = part one other same n parent (fill.If taken) at
  same_below one other same n parent (fill.Match arm) at = part one other same n parent (fill.Match arm) at

  by_parent : (levels n : ℕ) → ((k : ℕ) → stated_by m nodes place levels k ≡ stated_within m nodes levels k) → (o : Option ℕ) → parent_of nodes n ≡ o
      → option_and_then (below_node_by m nodes place (stated_by m nodes place levels) n) o ≡ option_and_then (below_node m nodes (stated_within m nodes levels) n) o
  by_parent levels n each None e = refl
  by_parent levels n each (Some parent) e = at (slice_get nodes parent) refl
    where
      at : (o : Option Node) → slice_get nodes parent ≡ o
          → option_and_then (λ node. below_by m nodes place (stated_by m nodes place levels) n parent node.fill) o ≡ option_and_then (λ node. below m nodes (stated_within m nodes levels) n parent node.fill) o
      at None is = refl
      at (Some node) is = same_below (stated_by m nodes place levels) (stated_within m nodes levels) each n parent node.fill (are n parent e (slice_get_within nodes parent node is))

  pub same_stated : (levels n : ℕ) → stated_by m nodes place levels n ≡ stated_within m nodes levels n
  same_stated zero n = refl
  same_stated (suc levels) n = by_parent levels n (λ k. same_stated levels k) (parent_of nodes n) refl

-- by a table
pub by_table : (m : ModelTree) (nodes : List Node) (table : List ℕ) → ArePlaces nodes table → (levels n : ℕ) → stated_by m nodes (place_by nodes (Some table)) levels n ≡ stated_within m nodes levels n
by_table m nodes table are levels n = same_stated m nodes (place_by nodes (Some table)) are levels n

-- and by the nodes between
pub by_nodes : (m : ModelTree) (nodes : List Node) → StandEarlier nodes → (levels n : ℕ) → stated_by m nodes (place_by nodes None) levels n ≡ stated_within m nodes levels n
by_nodes m nodes earlier levels n = same_stated m nodes (place_by nodes None) (λ k parent e l. behind_place nodes k parent earlier e l) levels n
