-- Where nodes stand as a tree grows.
use Rattle.std.proofs.Common.{◌≡◌, ◌⊎◌, ℕ, zero, suc, ◌+◌, List, [], ◌∷◌, Bool, true, false, if◌then◌else◌, Some, refl, sym, ap, ◌∙◌, subst, inl, inr, map, arith}
use Rattle.std.specs.Prelude.{slice_get}
use Rattle.std.specs.List.{enumerate_from, filter}
use Rattle.std.specs.Option.{option_and_then}
use Rattle.std.proofs.lemmas.Option.{none-some, same_Some, option_and_then_some}
use Rattle.pst_model.specs.ModelTree.{ModelTree}
use Rattle.pst_model.specs.ActivityTree.{StepTree, Sequence, Parallel, Schedule, Joined, Select, Repeat, If, Match, Traverse}
use Rattle.pst_scen.specs.declared.tree.Node.{Node}
use Rattle.pst_scen.specs.declared.tree.Fill.{Fill}
use Rattle.pst_scen.specs.declared.tree.Fill.TheVariants as fill
use Rattle.pst_scen.specs.declared.scenario.Scenario.{Scenario}
use Rattle.pst_scen.specs.Tree.{IsChild, is_parent}
use Rattle.pst_legal.specs.Types.{action_activity}
use Rattle.pst_legal.specs.Statements.{children_of, IsBranch, step_below, StandsFor, AtTop, Below, InTurn, way_in, node_on, handle_node}
use Rattle.pst_legal.specs.Slots.{compound_in, compound_at, node_behind, type_behind, traversed_type}
use Rattle.pst_built.proofs.Onward.{MoreValues, Onward}

-- a child is a node
abbrev pub There : List Node → ℕ → Type 0
There nodes n = (x : Node) × (slice_get nodes n ≡ Some x)

below_there : (parent first : ℕ) (nodes : List Node) (index child : ℕ) → slice_get (map (λ e. e.0) (filter (λ e. is_parent parent e.1.parent) (enumerate_from first nodes))) index ≡ Some child
    → (k : ℕ) × (child ≡ first + k) × There nodes k
below_there parent first [] index child is = absurd (none-some child is)
below_there parent first (x ∷ nodes) index child is =
    by_test (is_parent parent x.parent) index (λ i e. below_there parent (first + 1) nodes i child e) is
  where
    later : ((k : ℕ) × (child ≡ first + 1 + k) × There nodes k) → (k : ℕ) × (child ≡ first + k) × There (x ∷ nodes) k
    later r = (suc r.0, omega (arith, r.1), r.2)

    by_test : (b : Bool) (index : ℕ)
        → ((i : ℕ) → slice_get (map (λ e. e.0) (filter (λ e. is_parent parent e.1.parent) (enumerate_from (first + 1) nodes))) i ≡ Some child → (k : ℕ) × (child ≡ first + 1 + k) × There nodes k)
        → slice_get (map (λ e. e.0) (if b then (first, x) ∷ filter (λ e. is_parent parent e.1.parent) (enumerate_from (first + 1) nodes) else filter (λ e. is_parent parent e.1.parent) (enumerate_from (first + 1) nodes))) index ≡ Some child
        → (k : ℕ) × (child ≡ first + k) × There (x ∷ nodes) k
    by_test true zero each is = let same : first ≡ child = same_Some first child is in (0, omega (arith, same), (x, refl))
    by_test true (suc index) each is = later (each index is)
    by_test false index each is = later (each index is)

pub child_there : (nodes : List Node) (parent index child : ℕ) → IsBranch nodes parent index child → There nodes child
child_there nodes parent index child is =
    let r = below_there parent 0 nodes index child is in
    let same : child ≡ r.0 = omega (arith, r.1) in
    (r.2.0, ap (slice_get nodes) same ∙ r.2.1)

-- ---- handles

pub on_there : (nodes : List Node) (way : List ℕ) (top k : ℕ) → There nodes top → node_on nodes top way ≡ Some k → There nodes k
on_there nodes [] top k there is = subst (There nodes) (same_Some top k is) there
on_there nodes (index ∷ way) top k there is =
    option_and_then_some (λ child. node_on nodes child way) (slice_get (children_of nodes top) index) k is
    (λ child at rest. on_there nodes way child k (child_there nodes top index child at) rest)

module _ (s t : Scenario) (on : Onward s t) where
  on_more : (way : List ℕ) (top k : ℕ) → node_on s.nodes top way ≡ Some k → node_on t.nodes top way ≡ Some k
  on_more [] top k is = is
  on_more (index ∷ way) top k is =
      option_and_then_some (λ child. node_on s.nodes child way) (slice_get (children_of s.nodes top) index) k is
      (λ child at rest. ap (option_and_then (λ c. node_on t.nodes c way)) (on.branches top index child at) ∙ on_more way child k rest)

  handle_more : (m : ModelTree) (top action handle k : ℕ) → handle_node m s.nodes top action handle ≡ Some k → handle_node m t.nodes top action handle ≡ Some k
  handle_more m top action handle k is =
      option_and_then_some (λ activity. option_and_then (node_on s.nodes top) (way_in handle 0 activity.steps)) (action_activity m action) k is
      (λ activity of_type found. option_and_then_some (node_on s.nodes top) (way_in handle 0 activity.steps) k found
      (λ way leads at. ap (option_and_then (λ activity. option_and_then (node_on t.nodes top) (way_in handle 0 activity.steps))) of_type
      ∙ ap (option_and_then (node_on t.nodes top)) leads ∙ on_more way top k at))

  same_compound : (f g : Fill) → (g ≡ f) ⊎ MoreValues f g → compound_in g ≡ compound_in f
  same_compound f g (inl e) = ap compound_in e
  same_compound f g (inr o) = ap compound_in o.is ∙ sym (ap compound_in o.was)

  pub compound_more : (n : ℕ) (x : Node) → slice_get s.nodes n ≡ Some x → compound_at t.nodes n ≡ compound_at s.nodes n
  compound_more n x is =
      let y = on.nodes n x is in
      ap (option_and_then (λ node. compound_in node.fill)) y.1 ∙ same_compound x.fill y.0.fill y.2.fill ∙ sym (ap (option_and_then (λ node. compound_in node.fill)) is)

  pub type_more : (m : ModelTree) (n : ℕ) (x : Node) (handle : ℕ) → slice_get s.nodes n ≡ Some x → type_behind m t.nodes n handle ≡ type_behind m s.nodes n handle
  type_more m n x handle is = ap (option_and_then (λ action. traversed_type m action handle)) (compound_more n x is)

  pub behind_more : (m : ModelTree) (n : ℕ) (x : Node) (handle k : ℕ) → slice_get s.nodes n ≡ Some x → node_behind m s.nodes n handle ≡ Some k → node_behind m t.nodes n handle ≡ Some k
  behind_more m n x handle k is found =
      option_and_then_some (λ action. handle_node m s.nodes n action handle) (compound_at s.nodes n) k found
      (λ action at there. ap (option_and_then (λ action. handle_node m t.nodes n action handle)) (compound_more n x is ∙ at) ∙ handle_more m n action handle k there)

  -- ---- statements

  step_more : (f g : Fill) (above : StepTree) (index : ℕ) (step : StepTree) → (g ≡ f) ⊎ MoreValues f g → step_below f above index ≡ Some step → step_below g above index ≡ Some step
  step_more f g above index step (inl e) is = ap (λ h. step_below h above index) e ∙ is
  step_more f g above index step (inr o) is =
      ap (λ h. step_below h above index) o.is ∙ same_step above ∙ sym (ap (λ h. step_below h above index) o.was) ∙ is
    where
      same_step : (above : StepTree) → step_below (fill.Compound o.action o.instance o.new) above index ≡ step_below (fill.Compound o.action o.instance o.old) above index
      same_step (Traverse action handle inline) = refl
      same_step (Sequence steps) = refl
      same_step (Parallel steps) = refl
      same_step (Schedule steps) = refl
      same_step (Joined parallel join steps) = refl
      same_step (Select choices) = refl
      same_step (Repeat count body) = refl
      same_step (If condition holds fails) = refl
      same_step (Match matched arms other) = refl

  child_more : (child parent : ℕ) → IsChild s.nodes child parent → IsChild t.nodes child parent
  child_more child parent c =
      let y = on.nodes child c.node c.is in
      record { node = y.0; is = y.1; in_parent = y.2.parent ∙ c.in_parent }

  turn_more : (f g : Fill) (index : ℕ) → (g ≡ f) ⊎ MoreValues f g → f ≡ fill.Turn index → g ≡ fill.Turn index
  turn_more f g index (inl e) is = e ∙ is
  turn_more f g index (inr o) is = let bad : fill.Compound o.action o.instance o.old ≡ fill.Turn index = sym o.was ∙ is in absurd cc

  pub stands_more : (m : ModelTree) (top n : ℕ) (step : StepTree) (indices : List ℕ) → StandsFor m s.nodes top n step indices → StandsFor m t.nodes top n step indices
  stands_more m top _ _ _ (AtTop n index action instance fields activity node step is filled of_type at there) =
      let y = on.nodes top node is in
      by_fill y.0 y.1 y.2.fill
    where
      by_fill : (y : Node) → slice_get t.nodes top ≡ Some y → (y.fill ≡ node.fill) ⊎ MoreValues node.fill y.fill → StandsFor m t.nodes top n step []
      by_fill y got (inl e) = AtTop n index action instance fields activity y step got (e ∙ filled) of_type (on.branches top index n at) there
      by_fill y got (inr o) =
          let both : fill.Compound o.action o.instance o.old ≡ fill.Compound action instance fields = sym o.was ∙ filled in
          let same : o.action ≡ action = cc in
          AtTop n index action o.instance o.new activity y step got (o.is ∙ ap (λ x. fill.Compound x o.instance o.new) same) of_type (on.branches top index n at) there
  stands_more m top _ _ _ (Below n parent index node above step indices stands is at found) =
      let y = on.nodes parent node is in
      Below n parent index y.0 above step indices (stands_more m top parent above indices stands) y.1 (on.branches parent index n at) (step_more node.fill y.0.fill above index step y.2.fill found)
  stands_more m top _ _ _ (InTurn n turn parent index node count body others stands child is filled under) =
      let y = on.nodes turn node is in
      InTurn n turn parent index y.0 count body others (stands_more m top parent (Repeat count body) others stands) (child_more turn parent child) y.1
      (turn_more node.fill y.0.fill index y.2.fill filled) (child_more n turn under)

-- both ends of a statement's place are nodes
pub stands_there : (m : ModelTree) (nodes : List Node) (top n : ℕ) (step : StepTree) (indices : List ℕ) → StandsFor m nodes top n step indices → There nodes n × There nodes top
stands_there m nodes top _ _ _ (AtTop n index action instance fields activity node step is filled of_type at there) = (child_there nodes top index n at, (node, is))
stands_there m nodes top _ _ _ (Below n parent index node above step indices stands is at found) =
    (child_there nodes parent index n at, (stands_there m nodes top parent above indices stands).1)
stands_there m nodes top _ _ _ (InTurn n turn parent index node count body others stands child is filled under) =
    ((under.node, under.is), (stands_there m nodes top parent (Repeat count body) others stands).1)
