-- Where nodes were only added, the ways down to old nodes are as they were.
use Rattle.std.proofs.Common.{◌≡◌, ℕ, ◌<◌, ◌≤◌, List, [], ◌∷◌, length, Some, sym, ap, ◌∙◌, arith}
use Rattle.std.specs.Prelude.{slice_get}
use Rattle.std.specs.Option.{option_and_then}
use Rattle.std.proofs.lemmas.Option.{same_Some, option_and_then_some, slice_get_within}
use Rattle.pst_model.specs.ActivityTree.{ActivityTree}
use Rattle.pst_model.specs.ModelTree.{ModelTree}
use Rattle.pst_scen.specs.declared.tree.Node.{Node}
use Rattle.pst_legal.specs.Types.{action_activity}
use Rattle.pst_legal.specs.Statements.{children_of, way_in, node_on, handle_node}
use Rattle.pst_built.specs.Onward.{Each, MoreNode}
use Rattle.pst_built.proofs.Children.{There, on_there}
use Rattle.pst_slots.specs.Stated.{parent_of}
use Rattle.pst_slots.proofs.Children.{kid_at, at_its_place}
use Rattle.pst_refusals.specs.Answers.{StandEarlier}
use Rattle.pst_touched.proofs.Kids.{kid_is}
use Rattle.pst_touched.proofs.Ways.{child_of}
use Rattle.pst_new_refusals.proofs.Stated.{branch_before, same_parent, same_place}

-- a way leads to the node itself, or to one behind it
on_behind : (nodes : List Node) → StandEarlier nodes → (way : List ℕ) (n k : ℕ) → node_on nodes n way ≡ Some k → n ≤ k
on_behind nodes earlier [] n k is = let same = same_Some n k is in omega (arith, same)
on_behind nodes earlier (index ∷ way) n k is =
    option_and_then_some (λ child. node_on nodes child way) (slice_get (children_of nodes n) index) k is
    (λ child at rest.
    let one = branch_before nodes earlier n index child at in
    let more = on_behind nodes earlier way child k rest in
    omega (arith, one, more))

-- the node of a handle is there
pub handle_there : (m : ModelTree) (nodes : List Node) (top action handle k : ℕ) → There nodes top → handle_node m nodes top action handle ≡ Some k → There nodes k
handle_there m nodes top action handle k there is =
    option_and_then_some (λ (activity : ActivityTree). option_and_then (node_on nodes top) (way_in handle 0 activity.steps)) (action_activity m action) k is
    (λ activity has found. option_and_then_some (node_on nodes top) (way_in handle 0 activity.steps) k found (λ way leads on. on_there nodes way top k there on))

module _ (m : ModelTree) (old new : List Node) (more : Each MoreNode old new) (earlier : StandEarlier new) where
  child_was : (parent index child : ℕ) → slice_get (children_of new parent) index ≡ Some child → child < length old → slice_get (children_of old parent) index ≡ Some child
  child_was parent index child is l =
      let up : parent_of new child ≡ Some parent = child_of new child parent (kid_is new parent index child is) in
      at_its_place child (children_of old parent) index (sym (same_place m old new more earlier child parent l (sym (same_parent m old new more earlier child l) ∙ up)) ∙ (kid_at 0 new parent index child is).at)

  child_is : (parent index child : ℕ) → slice_get (children_of old parent) index ≡ Some child → slice_get (children_of new parent) index ≡ Some child
  child_is parent index child is =
      let kid = kid_is old parent index child is in
      let l = slice_get_within old child kid.node kid.is in
      at_its_place child (children_of new parent) index (same_place m old new more earlier child parent l (child_of old child parent kid) ∙ (kid_at 0 old parent index child is).at)

  on_was : (way : List ℕ) (n k : ℕ) → node_on new n way ≡ Some k → k < length old → node_on old n way ≡ Some k
  on_was [] n k is l = is
  on_was (index ∷ way) n k is l =
      option_and_then_some (λ child. node_on new child way) (slice_get (children_of new n) index) k is
      (λ child at rest.
      let behind = on_behind new earlier way child k rest in
      ap (option_and_then (λ c. node_on old c way)) (child_was n index child at (omega (arith, behind, l))) ∙ on_was way child k rest l)

  on_is : (way : List ℕ) (n k : ℕ) → node_on old n way ≡ Some k → node_on new n way ≡ Some k
  on_is [] n k is = is
  on_is (index ∷ way) n k is =
      option_and_then_some (λ child. node_on old child way) (slice_get (children_of old n) index) k is
      (λ child at rest. ap (option_and_then (λ c. node_on new c way)) (child_is n index child at) ∙ on_is way child k rest)

  -- the node of a handle, where that is old, is the one that it was
  pub handle_was : (top action handle k : ℕ) → handle_node m new top action handle ≡ Some k → k < length old → handle_node m old top action handle ≡ Some k
  handle_was top action handle k is l =
      option_and_then_some (λ (activity : ActivityTree). option_and_then (node_on new top) (way_in handle 0 activity.steps)) (action_activity m action) k is
      (λ activity has found. option_and_then_some (node_on new top) (way_in handle 0 activity.steps) k found
      (λ way leads on. ap (option_and_then (λ (a : ActivityTree). option_and_then (node_on old top) (way_in handle 0 a.steps))) has ∙ ap (option_and_then (node_on old top)) leads ∙ on_was way top k on l))

  -- and a node that a handle had is the handle's
  pub handle_is : (top action handle k : ℕ) → handle_node m old top action handle ≡ Some k → handle_node m new top action handle ≡ Some k
  handle_is top action handle k is =
      option_and_then_some (λ (activity : ActivityTree). option_and_then (node_on old top) (way_in handle 0 activity.steps)) (action_activity m action) k is
      (λ activity has found. option_and_then_some (node_on old top) (way_in handle 0 activity.steps) k found
      (λ way leads on. ap (option_and_then (λ (a : ActivityTree). option_and_then (node_on new top) (way_in handle 0 a.steps))) has ∙ ap (option_and_then (node_on new top)) leads ∙ on_is way top k on))
