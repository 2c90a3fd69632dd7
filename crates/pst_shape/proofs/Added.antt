-- What the last choice of a walk added.
use Rattle.std.proofs.Common.{◌≡◌, ℕ, List, ◌∷◌, take, map, Option, Some, None, refl, sym, ap, ◌∙◌}
use Rattle.std.proofs.lemmas.List.{take-map, length-map}
use Rattle.pst_model.specs.ModelTree.{ModelTree}
use Rattle.pst_scen.specs.declared.act.Act.{Act}
use Rattle.pst_scen.specs.declared.scenario.Scenario.{Scenario}
use Rattle.pst_shape_parts.specs.Trees.{Tree, scenario_of, opened, cut_to}
use Rattle.pst_shape_steps.specs.declared.pending.At.{At}
use Rattle.pst_shape.specs.declared.walk.Made.{Made}
use Rattle.pst_shape.specs.Choices.{node_count, leaf_count, undone}
use Rattle.pst_shape.specs.Made.{AllStand}
use Rattle.pst_shape.specs.Walks.{tree_in, without, IsAdded}
use Rattle.pst_shape_parts.proofs.Placed.{tree_is}
use Rattle.pst_shape.proofs.Stands.{sizes}

same_nodes : (v : Option ℕ) (n k : ℕ) (t : Tree) (more : List Act) → (undone v (cut_to n k t)).nodes ≡ (without v (cut_to n k (record { nodes = t.nodes; leaves = more }))).nodes
same_nodes None n k t more = refl
same_nodes (Some node) n k t more = refl

same_leaves : (v : Option ℕ) (n k : ℕ) (t : Tree) (s : Scenario) → take k s.actions ≡ (without v (cut_to n k (tree_in s))).leaves
same_leaves None n k t s = refl
same_leaves (Some node) n k t s = refl

undone_leaves : (v : Option ℕ) (n k : ℕ) (t : Tree) → (undone v (cut_to n k t)).leaves ≡ take k t.leaves
undone_leaves None n k t = refl
undone_leaves (Some node) n k t = refl

module _ (m : ModelTree) (root seed : ℕ) where
  pub added : (start : At) (x : Made) (older : List Made) (t : Tree) (level : ℕ) → AllStand m root seed start (x ∷ older) t
      → IsAdded (record { nodes = node_count older; leaves = leaf_count older; value = x.value }) (scenario_of m level (undone x.value (cut_to (node_count older) (leaf_count older) t))) (scenario_of m level t)
  added start x older t level h =
      let n = node_count older in
      let k = leaf_count older in
      let old : Tree = undone x.value (cut_to n k t) in
      let size = sizes m root seed start older old h.3 in
      record {
        nodes = sym size.0;
        leaves = sym (length-map old.leaves (opened m) ∙ size.1);
        others = tree_is _ _ (same_nodes x.value n k t (map (opened m) t.leaves))
            (ap (map (opened m)) (undone_leaves x.value n k t) ∙ sym (take-map (opened m) k t.leaves) ∙ same_leaves x.value n k t (scenario_of m level t));
      }
