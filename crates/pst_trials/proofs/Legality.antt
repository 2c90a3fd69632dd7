-- The parts of a legal scenario, where the scenario and its model are written out.
use Rattle.std.proofs.Common.{◌≡◌, ◌≢◌, ℕ, zero, suc, ℤ, List, [], ◌⊎◌, inl, inr, Option, Some, None, Bool, true, false, ◌||◌, nat_eq, slice_get, refl, sym, subst, ◌∙◌, Contains, option_and_then, T, eqb→eq, eq-eqb, true≢false, not-suc-le-zero}
use Rattle.pst_model.specs.ConstraintTree.{SlotTree, ConstraintTree}
use Rattle.pst_model.specs.ActivityTree.{StepTree, Traverse, Sequence, Parallel, Schedule, Joined, Select, Repeat, If, Match, BranchTree, MakeBranch, ArmTree, MakeArm, StepRow, NoSteps, MoreSteps, BranchRow, NoBranches, MoreBranches, ArmRow, NoArms, MoreArms, MaybeStep, NoStep, SomeStep, steps_of, branches_of, arms_of, step_of, branch_step, arm_step, ActivityTree}
use Rattle.pst_model.specs.ModelTree.{ModelTree, ActionTree, ContentTree, Atomic, Compound}
use Rattle.pst_scen.specs.declared.tree.Node.{Node}
use Rattle.pst_scen.specs.declared.tree.Fill.{Fill}
use Rattle.pst_scen.specs.declared.tree.Fill.TheVariants as fill
use Rattle.pst_scen.specs.declared.act.Act.{Act}
use Rattle.pst_scen.specs.declared.act.Filled.{Filled}
use Rattle.pst_scen.specs.declared.act.Claimed.{Claimed}
use Rattle.pst_scen.specs.declared.act.Flow.{Flow}
use Rattle.pst_scen.specs.declared.act.Flow.TheVariants.{BufferIn, BufferOut, StreamIn, StreamOut, StateIn, StateOut}
use Rattle.pst_scen.specs.declared.act.Link.{Link}
use Rattle.pst_scen.specs.declared.act.Link.TheVariants as link
use Rattle.pst_scen.specs.declared.scenario.Scenario.{Scenario}
use Rattle.std.specs.Option.{option_map}
use Rattle.pst_scen.specs.Tree.{StandsUnder, AtTop, Below}
use Rattle.pst_legal.specs.Types.{type_of, activity_in, action_activity, pool_object, is_state_pool, is_output}
use Rattle.pst_scen.specs.Conflicts.{Uses}
use Rattle.pst_scen.specs.Scenarios.{reference_at, AreInPreorder, IsLinkOf, IsStream, AreLinked, HasFirsts}
use Rattle.pst_legal.specs.Statements.{IsBranch, StandsFor, AtTop as AtTopStatement, Below as BelowStatement, InTurn, step_below}
use Rattle.pst_legal.specs.Standing.{Standing}
use Rattle.pst_legal.specs.Slots.{node_slot, act_slot, inline_slot, output_slot, resource_slot, first_object_slot}
use Rattle.pst_legal.specs.Pieces.{is_true}
use Rattle.pst_legal.specs.Constraints.{HasConstraint, OfCompound, OfAct, OfOutput, OfClaim, OfFirst, Inline, value_at, Holds}
use Rattle.pst_legal.specs.Binds.{Bound, fixed_source}
use Rattle.pst_legal.specs.Supplied.{is_source_for, IsSource, ArePreviousOnce, ComesFromFirst, IsInferable}
use Rattle.pst_legal.specs.SupplyReading.{is_state}
use Rattle.pst_scen.specs.Plans.{ClashesAlone}
use Rattle.pst_trials.specs.Parts.{scenario_of}
use Rattle.pst_trials.proofs.Cases.{Each, each, each_reference, EachOf, each_contained, some_same, none_some, false_true}
use Rattle.pst_trials.proofs.Branches.{is_below, holds_of, parent_at}
use Rattle.pst_trials.proofs.Orders.{referrals, each_refers}
use Rattle.pst_trials.proofs.Traces.{When, due}
use Rattle.pst_scen.specs.declared.scenario.First.{First}
use Rattle.pst_legal.specs.Shape.{HasShape, HasActShape, HasCompoundShape, HasObjectShape}
use Rattle.std.proofs.Common.{◌<◌, length}

pub differ : (a b : ℕ) → nat_eq a b ≡ false → a ≢ b
differ a b not_same same = true≢false (sym (eq-eqb a b same) ∙ not_same)

-- ---- nodes

from_or : (a b : Bool) → (a || b) ≡ true → (a ≡ true) ⊎ (b ≡ true)
from_or true b is = inl refl
from_or false b is = inr is

holds_some : (test : ℕ → Bool) (o : Option ℕ) → holds_of test o ≡ true → (n : ℕ) × (o ≡ Some n) × (test n ≡ true)
holds_some test None is = absurd (false_true is)
holds_some test (Some n) is = (n, refl, is)

parent_some : (o : Option Node) (parent : ℕ) → option_and_then (λ node. node.parent) o ≡ Some parent → (node : Node) × (o ≡ Some node) × (node.parent ≡ Some parent)
parent_some None parent is = absurd (none_some parent is)
parent_some (Some node) parent is = (node, refl, is)

same_of : (a b : ℕ) → nat_eq a b ≡ true → a ≡ b
same_of a b is = eqb→eq a b (subst T (sym is) tt)

pub below_is_under : (nodes : List Node) (steps top n : ℕ) → is_below nodes steps top n ≡ true → StandsUnder nodes top n
below_is_under nodes zero top n is = subst (StandsUnder nodes top) (same_of top n is) AtTop
below_is_under nodes (suc steps) top n is = either (below_is_under nodes steps top) (from_or (nat_eq top n) (holds_of (is_below nodes steps top) (parent_at nodes n)) is)
  where
    either : ((p : ℕ) → is_below nodes steps top p ≡ true → StandsUnder nodes top p) → (nat_eq top n ≡ true) ⊎ (holds_of (is_below nodes steps top) (parent_at nodes n) ≡ true) → StandsUnder nodes top n
    either above (inl same) = subst (StandsUnder nodes top) (same_of top n same) AtTop
    either above (inr upper) =
        let p : (parent : ℕ) × (parent_at nodes n ≡ Some parent) × (is_below nodes steps top parent ≡ true) = holds_some (is_below nodes steps top) (parent_at nodes n) upper in
        let c : (node : Node) × (slice_get nodes n ≡ Some node) × (node.parent ≡ Some p.0) = parent_some (slice_get nodes n) p.0 p.1 in
        Below n p.0 (above p.0 p.2) (record { node = c.0; is = c.1; in_parent = c.2 })

-- the first node has no parent, and each other one stands in one that the node before it stands in or is
abbrev pub IsPlaced : List Node → ℕ → Option ℕ → Type 0
IsPlaced nodes zero None = Unit {0}
IsPlaced nodes zero (Some parent) = ⊥
IsPlaced nodes (suc n) None = ⊥
IsPlaced nodes (suc n) (Some parent) = is_below nodes n parent n ≡ true

root_placed : (nodes : List Node) (parent : Option ℕ) → IsPlaced nodes 0 parent → parent ≡ None
root_placed nodes None placed = refl
root_placed nodes (Some parent) placed = absurd placed

below_placed : (nodes : List Node) (n : ℕ) (parent : Option ℕ) → IsPlaced nodes (suc n) parent → (p : ℕ) × (parent ≡ Some p) × StandsUnder nodes p n
below_placed nodes n None placed = absurd placed
below_placed nodes n (Some parent) placed = (parent, refl, below_is_under nodes n parent n placed)

pub in_preorder : (nodes : List Node) → Each (λ n node. IsPlaced nodes n node.parent) nodes → AreInPreorder nodes
in_preorder nodes facts = record {
  root = λ node is. root_placed nodes node.parent (each (λ n node. IsPlaced nodes n node.parent) nodes facts 0 node is);
  below = λ n node is. below_placed nodes n node.parent (each (λ n node. IsPlaced nodes n node.parent) nodes facts (suc n) node is);
}

-- ---- links

abbrev pub BackCase : Flow → Link → Link → Type 0
BackCase StreamIn to back = to ≡ back
BackCase StreamOut to back = to ≡ back
BackCase BufferIn to back = Unit {0}
BackCase BufferOut to back = Unit {0}
BackCase StateIn to back = Unit {0}
BackCase StateOut to back = Unit {0}

abbrev pub ThereCase : List Act → ℕ → ℕ → Flow → Link → Type 0
ThereCase acts a r flow link.Nothing = Unit {0}
ThereCase acts a r flow link.Initial = Unit {0}
ThereCase acts a r flow (link.Act b q) = (other : Filled) × (reference_at acts b q ≡ Some other) × BackCase flow other.link (link.Act a r)

nothing_act : (b q : ℕ) → link.Nothing ≡ link.Act b q → ⊥
nothing_act b q e = cc e

initial_act : (b q : ℕ) → link.Initial ≡ link.Act b q → ⊥
initial_act b q e = cc e

there_of : (acts : List Act) (a r : ℕ) (flow : Flow) (to : Link) → ThereCase acts a r flow to → (b q : ℕ) → to ≡ link.Act b q → (other : Filled) × (reference_at acts b q ≡ Some other) × BackCase flow other.link (link.Act a r)
there_of acts a r flow to case b q is = subst (ThereCase acts a r flow) is case

back_of : (flow : Flow) (to back : Link) → IsStream flow → BackCase flow to back → to ≡ back
back_of flow to back (inl is) case = subst (λ f. BackCase f to back) is case
back_of flow to back (inr is) case = subst (λ f. BackCase f to back) is case

pub are_linked : (acts : List Act) → Each (λ a act. Each (λ r filled. IsLinkOf filled.flow filled.link × ThereCase acts a r filled.flow filled.link) act.references) acts → AreLinked acts
are_linked acts facts a r filled is =
    let fact : IsLinkOf filled.flow filled.link × ThereCase acts a r filled.flow filled.link = each_reference (λ a r filled. IsLinkOf filled.flow filled.link × ThereCase acts a r filled.flow filled.link) acts facts a r filled is in
    record {
      kind = fact.0;
      there = λ b q to. let t = there_of acts a r filled.flow filled.link fact.1 b q to in (t.0, t.1);
      back = λ b q other stream to there.
          let t = there_of acts a r filled.flow filled.link fact.1 b q to in
          let same : t.0 ≡ other = some_same t.0 other (sym t.1 ∙ there) in
          back_of filled.flow other.link (link.Act a r) stream (subst (λ o. BackCase filled.flow o.link (link.Act a r)) same t.2);
    }

-- ---- scenarios without states

abbrev pub HasNoStates : Scenario → Type 0
HasNoStates s = EachOf (λ x. is_state x.flow ≡ false) (referrals s.actions)

no_use : (s : Scenario) → HasNoStates s → (a pool : ℕ) → Uses s a pool → ⊥
no_use s none a pool (to, inl reads) = true≢false (each_refers (λ a flow pool to. is_state flow ≡ false) s none a StateIn pool to reads)
no_use s none a pool (to, inr writes) = true≢false (each_refers (λ a flow pool to. is_state flow ≡ false) s none a StateOut pool to writes)

pub no_firsts : (level : ℕ) (nodes : List Node) (actions : List Act) → HasNoStates (scenario_of level nodes actions []) → HasFirsts (scenario_of level nodes actions [])
no_firsts level nodes actions none = record {
  ascending = λ i j d less below. absurd (not-suc-le-zero below);
  used = λ pool. ((λ contained. absurd (not-suc-le-zero contained.1)), (λ u. absurd (no_use (scenario_of level nodes actions []) none u.0 pool u.1)));
}

abbrev pub AreStateless : List Act → Type 0
AreStateless acts = Each (λ a act. Each (λ r filled. is_state filled.flow ≡ false) act.references) acts

no_writer : (acts : List Act) → AreStateless acts → (a r : ℕ) (filled : Filled) → reference_at acts a r ≡ Some filled → filled.flow ≡ StateOut → ⊥
no_writer acts none a r filled is writes =
    true≢false (subst (λ flow. is_state flow ≡ false) writes (each_reference (λ a r filled. is_state filled.flow ≡ false) acts none a r filled is))

pub no_previous : (acts : List Act) → AreStateless acts → ArePreviousOnce acts
no_previous acts none a r b q one other is_one is_other writes = absurd (no_writer acts none a r one is_one writes)

pub no_chains : (acts : List Act) → AreStateless acts → (a r : ℕ) (filled : Filled) → reference_at acts a r ≡ Some filled → filled.flow ≡ StateOut → ComesFromFirst acts a r
no_chains acts none a r filled is writes = absurd (no_writer acts none a r filled is writes)

-- ---- sources

abbrev pub SourceCase : List Act → ℕ → Filled → Link → Type 0
SourceCase acts a filled link.Nothing = Unit {0}
SourceCase acts a filled link.Initial = Unit {0}
SourceCase acts a filled (link.Act b q) =
    (nat_eq b a ≡ false) × ((source : Filled) × (reference_at acts b q ≡ Some source) × (is_source_for filled.flow source.flow ≡ true) × (source.pool ≡ filled.pool))

pub sources_by : (acts : List Act) → Each (λ a act. Each (λ r filled. SourceCase acts a filled filled.link) act.references) acts
    → (a r b q : ℕ) (filled : Filled) → reference_at acts a r ≡ Some filled → filled.link ≡ link.Act b q → IsSource acts a filled b q
sources_by acts facts a r b q filled is to =
    let fact : SourceCase acts a filled (link.Act b q) = subst (SourceCase acts a filled) to (each_reference (λ a r filled. SourceCase acts a filled filled.link) acts facts a r filled is) in
    record { other = differ b a fact.0; source = fact.1.0; is = fact.1.1; fits = fact.1.2; pool = fact.1.3 }

abbrev pub BoundCase : Option (ℕ × ℕ) → Link → Type 0
BoundCase None to = Unit {0}
BoundCase (Some source) to = to ≡ link.Act source.0 source.1

pub bound_by : (fixed : Option (ℕ × ℕ)) (to : Link) → BoundCase fixed to → (b q : ℕ) → fixed ≡ Some (b, q) → to ≡ link.Act b q
bound_by fixed to case b q is = subst (λ f. BoundCase f to) is case

-- each need that a bind fixes has the bound reference
pub bounds_by : (bounds : List Bound) (acts : List Act) → Each (λ a act. Each (λ r filled. BoundCase (fixed_source bounds a r filled.flow) filled.link) act.references) acts
    → (a r b q : ℕ) (filled : Filled) → reference_at acts a r ≡ Some filled → fixed_source bounds a r filled.flow ≡ Some (b, q) → filled.link ≡ link.Act b q
bounds_by bounds acts facts a r b q filled is fixed =
    bound_by (fixed_source bounds a r filled.flow) filled.link (each_reference (λ a r filled. BoundCase (fixed_source bounds a r filled.flow) filled.link) acts facts a r filled is) b q fixed

abbrev pub InferredCase : ModelTree → Act → Option ℕ → Type 0
InferredCase m act None = IsInferable m act
InferredCase m act (Some node) = Unit {0}

pub inferred_by : (m : ModelTree) (acts : List Act) → Each (λ a act. InferredCase m act act.node) acts → (a : ℕ) (act : Act) → slice_get acts a ≡ Some act → act.node ≡ None → IsInferable m act
inferred_by m acts facts a act is none = subst (InferredCase m act) none (each (λ a act. InferredCase m act act.node) acts facts a act is)

-- ---- inline constraints

abbrev mutual
  pub IsPlain : StepTree → Type 0
  IsPlain (Traverse action handle inline) = inline ≡ []
  IsPlain (Sequence steps) = ArePlain steps
  IsPlain (Parallel steps) = ArePlain steps
  IsPlain (Schedule steps) = ArePlain steps
  IsPlain (Joined parallel join steps) = ArePlain steps
  IsPlain (Select branches) = ArePlainBranches branches
  IsPlain (Repeat count body) = IsPlain body
  IsPlain (If condition holds fails) = IsPlain holds × IsPlainOther fails
  IsPlain (Match matched arms other) = ArePlainArms arms × IsPlainOther other

  pub ArePlain : StepRow → Type 0
  ArePlain NoSteps = Unit {0}
  ArePlain (MoreSteps step steps) = IsPlain step × ArePlain steps

  pub IsPlainBranch : BranchTree → Type 0
  IsPlainBranch (MakeBranch guard weight step) = IsPlain step

  pub ArePlainBranches : BranchRow → Type 0
  ArePlainBranches NoBranches = Unit {0}
  ArePlainBranches (MoreBranches branch branches) = IsPlainBranch branch × ArePlainBranches branches

  pub IsPlainArm : ArmTree → Type 0
  IsPlainArm (MakeArm spans step) = IsPlain step

  pub ArePlainArms : ArmRow → Type 0
  ArePlainArms NoArms = Unit {0}
  ArePlainArms (MoreArms arm arms) = IsPlainArm arm × ArePlainArms arms

  pub IsPlainOther : MaybeStep → Type 0
  IsPlainOther NoStep = Unit {0}
  IsPlainOther (SomeStep step) = IsPlain step

plain_in_row : (steps : StepRow) → ArePlain steps → (k : ℕ) (step : StepTree) → slice_get (steps_of steps) k ≡ Some step → IsPlain step
plain_in_row NoSteps plain k step is = absurd (none_some step is)
plain_in_row (MoreSteps first steps) plain zero step is = subst IsPlain (some_same first step is) plain.0
plain_in_row (MoreSteps first steps) plain (suc k) step is = plain_in_row steps plain.1 k step is

plain_branch_step : (branch : BranchTree) → IsPlainBranch branch → IsPlain (branch_step branch)
plain_branch_step (MakeBranch guard weight step) plain = plain

plain_arm_step : (arm : ArmTree) → IsPlainArm arm → IsPlain (arm_step arm)
plain_arm_step (MakeArm spans step) plain = plain

plain_in_branches : (branches : BranchRow) → ArePlainBranches branches → (k : ℕ) (step : StepTree) → option_map branch_step (slice_get (branches_of branches) k) ≡ Some step → IsPlain step
plain_in_branches NoBranches plain k step is = absurd (none_some step is)
plain_in_branches (MoreBranches branch filling) plain zero step is = subst IsPlain (some_same (branch_step branch) step is) (plain_branch_step branch plain.0)
plain_in_branches (MoreBranches branch filling) plain (suc k) step is = plain_in_branches filling plain.1 k step is

plain_in_arms : (arms : ArmRow) → ArePlainArms arms → (k : ℕ) (step : StepTree) → option_map arm_step (slice_get (arms_of arms) k) ≡ Some step → IsPlain step
plain_in_arms NoArms plain k step is = absurd (none_some step is)
plain_in_arms (MoreArms arm arms) plain zero step is = subst IsPlain (some_same (arm_step arm) step is) (plain_arm_step arm plain.0)
plain_in_arms (MoreArms arm arms) plain (suc k) step is = plain_in_arms arms plain.1 k step is

plain_other : (other : MaybeStep) → IsPlainOther other → (step : StepTree) → step_of other ≡ Some step → IsPlain step
plain_other NoStep plain step is = absurd (none_some step is)
plain_other (SomeStep other) plain step is = subst IsPlain (some_same other step is) plain

plain_below : (fill : Fill) (above : StepTree) (index : ℕ) (step : StepTree) → IsPlain above → step_below fill above index ≡ Some step → IsPlain step
plain_below fill.Sequence (Sequence steps) index step plain is = plain_in_row steps plain index step is
plain_below fill.Parallel (Parallel steps) index step plain is = plain_in_row steps plain index step is
plain_below fill.Schedule (Schedule steps) index step plain is = plain_in_row steps plain index step is
plain_below (fill.Joined _ _) (Joined parallel join steps) index step plain is = plain_in_row steps plain index step is
plain_below (fill.Select branch) (Select filling) index step plain is = plain_in_branches filling plain branch step is
plain_below (fill.If true) (If condition holds fails) index step plain is = subst IsPlain (some_same holds step is) plain.0
plain_below (fill.If false) (If condition holds fails) index step plain is = plain_other fails plain.1 step is
plain_below (fill.Match (Some arm)) (Match matched arms other) index step plain is = plain_in_arms arms plain.0 arm step is
plain_below (fill.Match None) (Match matched arms other) index step plain is = plain_other other plain.1 step is
plain_below _ _ index step plain is = absurd (none_some step is)

abbrev pub IsPlainContent : ContentTree → Type 0
IsPlainContent (Atomic body) = Unit {0}
IsPlainContent (Compound activity) = Each (λ k step. IsPlain step) activity.steps

-- no activity of the model has an inline constraint
abbrev pub IsPlainModel : ModelTree → Type 0
IsPlainModel m = Each (λ k type. IsPlainContent type.content) m.actions

typed_activity : (o : Option ActionTree) (activity : ActivityTree) → option_and_then (λ type. activity_in type.content) o ≡ Some activity → (type : ActionTree) × (o ≡ Some type) × (activity_in type.content ≡ Some activity)
typed_activity None activity is = absurd (none_some activity is)
typed_activity (Some type) activity is = (type, refl, is)

plain_content : (content : ContentTree) (activity : ActivityTree) → IsPlainContent content → activity_in content ≡ Some activity → Each (λ k step. IsPlain step) activity.steps
plain_content (Atomic body) activity plain is = absurd (none_some activity is)
plain_content (Compound own) activity plain is = subst (λ activity. Each (λ k step. IsPlain step) activity.steps) (some_same own activity is) plain

plain_standing : (m : ModelTree) (nodes : List Node) → IsPlainModel m → (top n : ℕ) (step : StepTree) (indices : List ℕ) → StandsFor m nodes top n step indices → IsPlain step
plain_standing m nodes plain top _ _ _ (AtTopStatement n index action instance fields activity node step is_node compound has branch is) =
    let t : (type : ActionTree) × (type_of m action ≡ Some type) × (activity_in type.content ≡ Some activity) = typed_activity (type_of m action) activity has in
    each (λ k step. IsPlain step) activity.steps
    (plain_content t.0.content activity (each (λ k type. IsPlainContent type.content) m.actions plain action t.0 t.1) t.2) index step is
plain_standing m nodes plain top _ _ _ (BelowStatement n parent index node above step indices stands is_node branch is) =
    plain_below node.fill above index step (plain_standing m nodes plain top parent above indices stands) is
plain_standing m nodes plain top _ _ _ (InTurn n turn parent index node count body indices stands child is_node turning below) =
    plain_standing m nodes plain top parent (Repeat count body) indices stands

-- ---- constraints

abbrev pub OnSome : {A : Type 0} → (A → Type 0) → Option A → Type 0
OnSome P None = Unit {0}
OnSome P (Some x) = P x

on_some : {A : Type 0} (P : A → Type 0) (o : Option A) (x : A) → OnSome P o → o ≡ Some x → P x
on_some P o x fact is = subst (OnSome P) is fact

-- the constraint has a value that isn't 0
abbrev pub HoldsAt : (SlotTree → Standing) → ConstraintTree → Type 0
HoldsAt standing k = is_true (value_at k standing) ≡ true

-- a property of constraints, with what their slots stand for
abbrev pub Property : Type 1
Property = (SlotTree → Standing) → ConstraintTree → Type 0

abbrev pub CompoundHolds : Property → ModelTree → Scenario → ℕ → Fill → Type 0
CompoundHolds P m s n (fill.Compound action instance fields) = OnSome (λ type. EachOf (P (node_slot m s n)) type.constraints) (type_of m action)
CompoundHolds P m s n _ = Unit {0}

abbrev pub ActHolds : Property → ModelTree → Scenario → ℕ → Act → Type 0
ActHolds P m s a act = OnSome (λ type. EachOf (P (act_slot m s a act)) type.constraints) (type_of m act.action)

abbrev pub ClaimsHold : Property → ModelTree → ℕ → Act → Type 0
ClaimsHold P m a act = OnSome (λ type. Each (λ c claim. OnSome (λ object. EachOf (P (resource_slot m a act c)) object.constraints) (slice_get m.objects claim.object)) type.claims) (type_of m act.action)

abbrev pub OutputHolds : Property → ModelTree → Scenario → ℕ → ℕ → Filled → Type 0
OutputHolds P m s a r filled = When (is_output filled.flow) (OnSome (λ object. EachOf (P (output_slot m s a r filled)) object.constraints) (pool_object m filled.pool))

abbrev pub FirstHolds : Property → ModelTree → Scenario → Filled → Type 0
FirstHolds P m s filled = When (is_state_pool m filled.pool) (OnSome (λ object. EachOf (P (first_object_slot m s filled.pool)) object.constraints) (pool_object m filled.pool))

-- each inline constraint has the property
abbrev pub EachInline : Property → ModelTree → Scenario → Type 0
EachInline P m s =
    (n top action : ℕ) (handle : Option ℕ) (inline : List ConstraintTree) (indices : List ℕ) (k : ConstraintTree)
    → StandsFor m s.nodes top n (Traverse action handle inline) indices → Contains inline k → P (inline_slot m s n top indices) k

-- each constraint of a scenario has the property
pub record EachConstraint (P : Property) (m : ModelTree) (s : Scenario) : Type 0 where
  pub inlines : EachInline P m s
  pub compounds : Each (λ n node. CompoundHolds P m s n node.fill) s.nodes
  pub acts : Each (λ a act. ActHolds P m s a act) s.actions
  pub claims : Each (λ a act. ClaimsHold P m a act) s.actions
  pub outputs : Each (λ a act. Each (λ r filled. OutputHolds P m s a r filled) act.references) s.actions
  pub firsts : Each (λ a act. Each (λ r filled. FirstHolds P m s filled) act.references) s.actions

no_inline : (k : ConstraintTree) (inline : List ConstraintTree) → inline ≡ [] → Contains inline k → ⊥
no_inline k inline none contained = not-suc-le-zero (subst (λ l. Contains l k) none contained).1

-- where the model has no inline constraint
pub none_inline : (P : Property) (m : ModelTree) (s : Scenario) → IsPlainModel m → EachInline P m s
none_inline P m s plain n top action handle inline indices k stands contained =
    absurd (no_inline k inline (plain_standing m s.nodes plain top n (Traverse action handle inline) indices stands) contained)

pub each_constraint : (P : Property) (m : ModelTree) (s : Scenario) → EachConstraint P m s → (k : ConstraintTree) (standing : SlotTree → Standing) → HasConstraint m s k standing → P standing k
each_constraint P m s all _ _ (OfCompound n action instance fields node type k is compound of_type contained) =
    each_contained (P (node_slot m s n)) type.constraints
    (on_some (λ type. EachOf (P (node_slot m s n)) type.constraints) (type_of m action) type
    (subst (CompoundHolds P m s n) compound (each (λ n node. CompoundHolds P m s n node.fill) s.nodes all.compounds n node is)) of_type) k contained
each_constraint P m s all _ _ (OfAct a act type k is contained) =
    each_contained (P (act_slot m s a act)) type.constraints
    (on_some (λ type. EachOf (P (act_slot m s a act)) type.constraints) (type_of m act.action) type
    (each (λ a act. ActHolds P m s a act) s.actions all.acts a act is.is) is.of_type) k contained
each_constraint P m s all _ _ (OfOutput a r filled object k is output has contained) =
    each_contained (P (output_slot m s a r filled)) object.constraints
    (on_some (λ object. EachOf (P (output_slot m s a r filled)) object.constraints) (pool_object m filled.pool) object
    (due (is_output filled.flow) (OnSome (λ object. EachOf (P (output_slot m s a r filled)) object.constraints) (pool_object m filled.pool)) output
    (each_reference (λ a r filled. OutputHolds P m s a r filled) s.actions all.outputs a r filled is)) has) k contained
each_constraint P m s all _ _ (OfClaim a c act type claim object k is is_claim is_object contained) =
    let claims : Each (λ c claim. OnSome (λ object. EachOf (P (resource_slot m a act c)) object.constraints) (slice_get m.objects claim.object)) type.claims =
    on_some (λ type. Each (λ c claim. OnSome (λ object. EachOf (P (resource_slot m a act c)) object.constraints) (slice_get m.objects claim.object)) type.claims) (type_of m act.action) type
    (each (λ a act. ClaimsHold P m a act) s.actions all.claims a act is.is) is.of_type in
    each_contained (P (resource_slot m a act c)) object.constraints
    (on_some (λ object. EachOf (P (resource_slot m a act c)) object.constraints) (slice_get m.objects claim.object) object
    (each (λ c claim. OnSome (λ object. EachOf (P (resource_slot m a act c)) object.constraints) (slice_get m.objects claim.object)) type.claims claims c claim is_claim) is_object) k contained
each_constraint P m s all _ _ (OfFirst a r filled object k is state has contained) =
    each_contained (P (first_object_slot m s filled.pool)) object.constraints
    (on_some (λ object. EachOf (P (first_object_slot m s filled.pool)) object.constraints) (pool_object m filled.pool) object
    (due (is_state_pool m filled.pool) (OnSome (λ object. EachOf (P (first_object_slot m s filled.pool)) object.constraints) (pool_object m filled.pool)) state
    (each_reference (λ a r filled. FirstHolds P m s filled) s.actions all.firsts a r filled is)) has) k contained
each_constraint P m s all _ _ (Inline n top action handle inline indices k stands contained) =
    all.inlines n top action handle inline indices k stands contained

pub holds_by : (m : ModelTree) (s : Scenario) → EachConstraint HoldsAt m s → Holds m s
holds_by m s all k standing has = each_constraint HoldsAt m s all k standing has

-- ---- claims of one action

-- no two different claims of an action are of one instance, one of them by lock
abbrev pub AreOwnClaims : List Claimed → Type 0
AreOwnClaims claims = Each (λ i one. Each (λ j other. (i ≢ j) → one.pool ≡ other.pool → one.instance ≡ other.instance → (one.lock ≡ true) ⊎ (other.lock ≡ true) → ⊥) claims) claims

pub none_clashes : (s : Scenario) → Each (λ a act. AreOwnClaims act.claims) s.actions → (a : ℕ) → ClashesAlone s a → ⊥
none_clashes s facts a clash =
    let same : clash.is_second.act ≡ clash.is_first.act = some_same clash.is_second.act clash.is_first.act (sym clash.is_second.is_act ∙ clash.is_first.is_act) in
    let is_second : slice_get clash.is_first.act.claims clash.second ≡ Some clash.other = subst (λ act. slice_get act.claims clash.second ≡ Some clash.other) same clash.is_second.is in
    let own : AreOwnClaims clash.is_first.act.claims = each (λ a act. AreOwnClaims act.claims) s.actions facts a clash.is_first.act clash.is_first.is_act in
    each (λ j other. (clash.first ≢ j) → clash.one.pool ≡ other.pool → clash.one.instance ≡ other.instance → (clash.one.lock ≡ true) ⊎ (other.lock ≡ true) → ⊥) clash.is_first.act.claims
    (each (λ i one. Each (λ j other. (i ≢ j) → one.pool ≡ other.pool → one.instance ≡ other.instance → (one.lock ≡ true) ⊎ (other.lock ≡ true) → ⊥) clash.is_first.act.claims) clash.is_first.act.claims own clash.first clash.one clash.is_first.is)
    clash.second clash.other is_second clash.different clash.same_pool clash.same_instance clash.by_lock

-- ---- statements of activities that have traversals alone

abbrev pub is_traverse : StepTree → Bool
is_traverse (Traverse action handle inline) = true
is_traverse (Sequence steps) = false
is_traverse (Parallel steps) = false
is_traverse (Schedule steps) = false
is_traverse (Joined parallel join steps) = false
is_traverse (Select filling) = false
is_traverse (Repeat count body) = false
is_traverse (If condition holds fails) = false
is_traverse (Match matched arms other) = false

abbrev pub IsFlatContent : ContentTree → Type 0
IsFlatContent (Atomic body) = Unit {0}
IsFlatContent (Compound activity) = Each (λ k step. is_traverse step ≡ true) activity.steps

abbrev pub IsFlatModel : ModelTree → Type 0
IsFlatModel m = Each (λ k type. IsFlatContent type.content) m.actions

flat_content : (content : ContentTree) (activity : ActivityTree) → IsFlatContent content → activity_in content ≡ Some activity → Each (λ k step. is_traverse step ≡ true) activity.steps
flat_content (Atomic body) activity flat is = absurd (none_some activity is)
flat_content (Compound own) activity flat is = subst (λ activity. Each (λ k step. is_traverse step ≡ true) activity.steps) (some_same own activity is) flat

-- the node is a statement of the compound action's activity itself
pub record StandsAtTop (m : ModelTree) (nodes : List Node) (top n : ℕ) (step : StepTree) (indices : List ℕ) : Type 0 where
  pub index : ℕ
  pub action : ℕ
  pub instance : ℕ
  pub fields : List ℤ
  pub activity : ActivityTree
  pub node : Node
  pub is_node : slice_get nodes top ≡ Some node
  pub compound : node.fill ≡ fill.Compound action instance fields
  pub has : action_activity m action ≡ Some activity
  pub branch : IsBranch nodes top index n
  pub is : slice_get activity.steps index ≡ Some step
  pub traverse : is_traverse step ≡ true
  pub no_turns : indices ≡ []

-- no node fills a part of a traversal
none_below : (fill : Fill) (action : ℕ) (handle : Option ℕ) (inline : List ConstraintTree) (index : ℕ) → step_below fill (Traverse action handle inline) index ≡ None
none_below fill.Sequence action handle inline index = refl
none_below (fill.If true) action handle inline index = refl
none_below (fill.If false) action handle inline index = refl
none_below (fill.Match (Some arm)) action handle inline index = refl
none_below (fill.Match None) action handle inline index = refl
none_below _ action handle inline index = refl

below_traverse : (fill : Fill) (above : StepTree) (index : ℕ) (step : StepTree) → is_traverse above ≡ true → step_below fill above index ≡ Some step → ⊥
below_traverse fill (Traverse action handle inline) index step is some = none_some step (sym (none_below fill action handle inline index) ∙ some)
below_traverse _ (Sequence steps) index step is some = false_true is
below_traverse _ (Parallel steps) index step is some = false_true is
below_traverse _ (Schedule steps) index step is some = false_true is
below_traverse _ (Joined parallel join steps) index step is some = false_true is
below_traverse _ (Select filling) index step is some = false_true is
below_traverse _ (Repeat count body) index step is some = false_true is
below_traverse _ (If condition holds fails) index step is some = false_true is
below_traverse _ (Match matched arms other) index step is some = false_true is

pub stands_at_top : (m : ModelTree) (nodes : List Node) → IsFlatModel m → (top n : ℕ) (step : StepTree) (indices : List ℕ) → StandsFor m nodes top n step indices → StandsAtTop m nodes top n step indices
stands_at_top m nodes flat top _ _ _ (AtTopStatement n index action instance fields activity node step is_node compound has branch is) =
    let t : (type : ActionTree) × (type_of m action ≡ Some type) × (activity_in type.content ≡ Some activity) = typed_activity (type_of m action) activity has in
    record {
      index = index;
      action = action;
      instance = instance;
      fields = fields;
      activity = activity;
      node = node;
      is_node = is_node;
      compound = compound;
      has = has;
      branch = branch;
      is = is;
      traverse = each (λ k step. is_traverse step ≡ true) activity.steps (flat_content t.0.content activity (each (λ k type. IsFlatContent type.content) m.actions flat action t.0 t.1) t.2) index step is;
      no_turns = refl;
    }
stands_at_top m nodes flat top _ _ _ (BelowStatement n parent index node above step indices stands is_node branch is) =
    absurd (below_traverse node.fill above index step (stands_at_top m nodes flat top parent above indices stands).traverse is)
stands_at_top m nodes flat top _ _ _ (InTurn n turn parent index node count body indices stands child is_node turning below) =
    absurd (false_true (stands_at_top m nodes flat top parent (Repeat count body) indices stands).traverse)

-- ---- shapes

abbrev pub CompoundShape : ModelTree → Fill → Type 0
CompoundShape m (fill.Compound action instance fields) = HasCompoundShape m action instance fields
CompoundShape m _ = Unit {0}

abbrev pub FirstShape : ModelTree → First → Type 0
FirstShape m first = (first.pool < length m.pools) × HasObjectShape (pool_object m first.pool) first.values

pub shape_by : (m : ModelTree) (s : Scenario) → Each (λ n node. CompoundShape m node.fill) s.nodes → Each (λ a act. HasActShape m act) s.actions → Each (λ k first. FirstShape m first) s.firsts → HasShape m s
shape_by m s compounds acts firsts = record {
  compounds = λ n action instance fields node is compound. subst (CompoundShape m) compound (each (λ n node. CompoundShape m node.fill) s.nodes compounds n node is);
  acts = each (λ a act. HasActShape m act) s.actions acts;
  pools = λ k first is. (each (λ k first. FirstShape m first) s.firsts firsts k first is).0;
  firsts = λ k first is. (each (λ k first. FirstShape m first) s.firsts firsts k first is).1;
}
