-- An old node stands for the same statement where nodes and values were only added.
use Rattle.std.proofs.Common.{◌≡◌, ◌⊎◌, ℕ, ℤ, zero, suc, ◌+◌, ◌<◌, ◌≤◌, List, [], ◌∷◌, length, cond, Option, Some, None, refl, sym, ap, ap₂, ◌∙◌, subst, inl, inr, arith}
use Rattle.std.specs.Prelude.{slice_get}
use Rattle.std.specs.Option.{option_and_then}
use Rattle.std.proofs.lemmas.Option.{slice_get_within, option_and_then_some}
use Rattle.pst_model.specs.ActivityTree.{StepTree}
use Rattle.pst_model.specs.ModelTree.{ModelTree}
use Rattle.pst_scen.specs.declared.tree.Node.{Node}
use Rattle.pst_scen.specs.declared.tree.Fill.{Fill}
use Rattle.pst_scen.specs.declared.tree.Fill.TheVariants as fill
use Rattle.pst_scen.specs.Tree.{is_parent, branch_of}
use Rattle.pst_legal.specs.Statements.{StandsFor, AtTop, Below, InTurn, IsBranch}
use Rattle.pst_built.specs.Onward.{Each, MoreNode, MoreValues}
use Rattle.pst_slots.specs.Stated.{Stated, parent_of, place_in, at_place, part_at, repeated_in, below, below_node, stated_within, statement_of}
use Rattle.pst_slots.proofs.Children.{kid_at}
use Rattle.pst_slots.proofs.Found.{found}
use Rattle.pst_slots.proofs.Kept.{kept}
use Rattle.pst_refusals.specs.Answers.{StandEarlier}
use Rattle.pst_refusals.proofs.Counting.{place_is, with_next}

pub there : {A : Type 0} (xs : List A) (n : ℕ) → n < length xs → (x : A) × (slice_get xs n ≡ Some x)
there [] n l = absurd (omega (arith, l))
there (x ∷ xs) zero l = (x, refl)
there (x ∷ xs) (suc n) l = there xs n (omega (arith, l))

-- ---- the compound action round a statement

parent_before : (nodes : List Node) → StandEarlier nodes → (n parent : ℕ) → parent_of nodes n ≡ Some parent → parent < n
parent_before nodes earlier n parent e = option_and_then_some (λ (node : Node). node.parent) (slice_get nodes n) parent e (λ node at on. earlier n parent node at on)

pub branch_before : (nodes : List Node) → StandEarlier nodes → (parent index n : ℕ) → IsBranch nodes parent index n → parent < n
branch_before nodes earlier parent index n branch =
    let kid = kid_at 0 nodes parent index n branch in
    let same : kid.place ≡ n = omega (arith, kid.number) in
    subst (λ k. parent < k) same (earlier kid.place parent kid.node kid.is kid.in_parent)

pub top_before : (m : ModelTree) (nodes : List Node) → StandEarlier nodes → (top : ℕ) {n : ℕ} {step : StepTree} {indices : List ℕ} → StandsFor m nodes top n step indices → top < n
top_before m nodes earlier top (AtTop n index action instance fields activity node step is leaf has branch at) = branch_before nodes earlier top index n branch
top_before m nodes earlier top (Below n parent index node above step indices over is branch at) =
    let up = top_before m nodes earlier top over in
    let l = branch_before nodes earlier parent index n branch in
    omega (arith, up, l)
top_before m nodes earlier top (InTurn n turn parent index node count body round over in_parent is of in_it) =
    let up = top_before m nodes earlier top over in
    let one = earlier n turn in_it.node in_it.is in_it.in_parent in
    let two = earlier turn parent in_parent.node in_parent.is in_parent.in_parent in
    omega (arith, up, one, two)

pub record IsCompoundAt (nodes : List Node) (n : ℕ) : Type 0 where
  pub node : Node
  pub action : ℕ
  pub instance : ℕ
  pub fields : List ℤ
  pub is : slice_get nodes n ≡ Some node
  pub of : node.fill ≡ fill.Compound action instance fields

pub top_is : (m : ModelTree) (nodes : List Node) (top : ℕ) {n : ℕ} {step : StepTree} {indices : List ℕ} → StandsFor m nodes top n step indices → IsCompoundAt nodes top
top_is m nodes top (AtTop n index action instance fields activity node step is leaf has branch at) = record { node = node; action = action; instance = instance; fields = fields; is = is; of = leaf }
top_is m nodes top (Below n parent index node above step indices over is branch at) = top_is m nodes top over
top_is m nodes top (InTurn n turn parent index node count body round over in_parent is of in_it) = top_is m nodes top over

-- ---- statements

module _ (m : ModelTree) (old new : List Node) (more : Each MoreNode old new) (earlier : StandEarlier new) where
  pub same_parent : (n : ℕ) → n < length old → parent_of new n ≡ parent_of old n
  same_parent n l =
      let x = there old n l in
      let y = more n x.0 x.1 in
      ap (option_and_then (λ (node : Node). node.parent)) y.1 ∙ y.2.parent ∙ sym (ap (option_and_then (λ (node : Node). node.parent)) x.1)

  within_new : (n : ℕ) → n < length old → n < length new
  within_new n l =
      let x = there old n l in
      let y = more n x.0 x.1 in
      slice_get_within new n y.0 y.1

  same_count : (parent n : ℕ) → n ≤ length old → branch_of new parent n ≡ branch_of old parent n
  same_count parent zero l = refl
  same_count parent (suc n) l =
      let under : n < length old = omega (arith, l) in
      with_next new parent n (parent_of new n) (within_new n under) refl
      ∙ ap₂ (λ (k : ℕ) (o : Option ℕ). k + cond (is_parent parent o) 1 0) (same_count parent n (omega (arith, l))) (same_parent n under)
      ∙ sym (with_next old parent n (parent_of old n) under refl)

  pub same_place : (n parent : ℕ) → n < length old → parent_of old n ≡ Some parent → place_in new parent n ≡ place_in old parent n
  same_place n parent l e =
      place_is new n parent (same_parent n l ∙ e) ∙ ap Some (same_count parent n (omega (arith, l))) ∙ sym (place_is old n parent e)

  module _ (levels n parent : ℕ) (place : place_in new parent n ≡ place_in old parent n) (up : parent_of new parent ≡ parent_of old parent)
      (above : stated_within m new levels parent ≡ stated_within m old levels parent)
      (over : (p : ℕ) → parent_of old parent ≡ Some p → stated_within m new levels p ≡ stated_within m old levels p) where
    same_part : (f : Fill) → option_and_then (λ x. option_and_then (part_at f x) (place_in new parent n)) (stated_within m new levels parent) ≡ option_and_then (λ x. option_and_then (part_at f x) (place_in old parent n)) (stated_within m old levels parent)
    same_part f = ap₂ (λ (p : Option ℕ) (o : Option Stated). option_and_then (λ x. option_and_then (part_at f x) p) o) place above

    over_all : (o : Option ℕ) → parent_of old parent ≡ o → option_and_then (stated_within m new levels) o ≡ option_and_then (stated_within m old levels) o
    over_all None e = refl
    over_all (Some p) e = over p e

    same_below : (f : Fill) → below m new (stated_within m new levels) n parent f ≡ below m old (stated_within m old levels) n parent f
    same_below (fill.Compound action instance fields) = ap (option_and_then (at_place m parent action)) place
    same_below (fill.Turn index) = ap (option_and_then (repeated_in index)) (ap (option_and_then (stated_within m new levels)) up ∙ over_all (parent_of old parent) refl)
    same_below (fill.Leaf act) = same_part (fill.Leaf act)
    same_below fill.Sequence = same_part fill.Sequence
    same_below fill.Parallel = same_part fill.Parallel
    same_below fill.Schedule = same_part fill.Schedule
    same_below (fill.Joined parallel joined) = same_part (fill.Joined parallel joined)
    same_below (fill.Select branch) = same_part (fill.Select branch)
    same_below fill.Repeat = same_part fill.Repeat
    same_below (fill.If taken) = same_part (fill.If taken)
    same_below (fill.Match arm) = same_part (fill.Match arm)

    more_below : (f g : Fill) → (g ≡ f) ⊎ MoreValues f g → below m new (stated_within m new levels) n parent g ≡ below m old (stated_within m old levels) n parent f
    more_below f g (inl e) = ap (below m new (stated_within m new levels) n parent) e ∙ same_below f
    more_below f g (inr values) =
        ap (below m new (stated_within m new levels) n parent) values.is
        ∙ ap (option_and_then (at_place m parent values.action)) place
        ∙ sym (ap (below m old (stated_within m old levels) n parent) values.was)

  by_parent : (levels n : ℕ) → n < length old → ((k : ℕ) → k < length old → stated_within m new levels k ≡ stated_within m old levels k) → (o : Option ℕ) → parent_of old n ≡ o
      → option_and_then (below_node m new (stated_within m new levels) n) o ≡ option_and_then (below_node m old (stated_within m old levels) n) o
  by_parent levels n l each None e = refl
  by_parent levels n l each (Some parent) e =
      let lower : parent < n = parent_before new earlier n parent (same_parent n l ∙ e) in
      let within : parent < length old = omega (arith, lower, l) in
      let x = there old parent within in
      let y = more parent x.0 x.1 in
      ap (option_and_then (λ (node : Node). below m new (stated_within m new levels) n parent node.fill)) y.1
      ∙ more_below levels n parent (same_place n parent l e) (same_parent parent within) (each parent within)
      (λ p up. let less = parent_before new earlier parent p (same_parent parent within ∙ up) in each p (omega (arith, less, within))) x.0.fill y.0.fill y.2.fill
      ∙ sym (ap (option_and_then (λ (node : Node). below m old (stated_within m old levels) n parent node.fill)) x.1)

  same_stated : (levels n : ℕ) → n < length old → stated_within m new levels n ≡ stated_within m old levels n
  same_stated zero n l = refl
  same_stated (suc levels) n l = ap (option_and_then (below_node m new (stated_within m new levels) n)) (same_parent n l) ∙ by_parent levels n l (λ k under. same_stated levels k under) (parent_of old n) refl

  -- so it stands for the statement among the old nodes
  pub stood : (top n : ℕ) (step : StepTree) (indices : List ℕ) → n < length old → StandsFor m new top n step indices → StandsFor m old top n step indices
  stood top n step indices l stands =
      let is : statement_of m old n ≡ Some (record { top = top; step = step; indices = indices }) = sym (same_stated (length old) n l) ∙ kept m new earlier (length old) top stands l in
      found m old (length old) n (record { top = top; step = step; indices = indices }) is
