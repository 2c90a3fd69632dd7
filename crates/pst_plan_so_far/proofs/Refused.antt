-- What is linked is ordered by links that are read.
use Rattle.std.proofs.Common.{◌≡◌, ◌⊎◌, ℕ, ◌<◌, List, Some, refl, sym, ap, ◌∙◌, subst, ⊎_elim, arith}
use Rattle.std.specs.Option.{option_and_then}
use Rattle.std.specs.Prelude.{slice_get}
use Rattle.pst_model.specs.ModelTree.{ModelTree}
use Rattle.pst_scen.specs.declared.act.Act.{Act}
use Rattle.pst_scen.specs.declared.act.Flow.{Flow}
use Rattle.pst_scen.specs.declared.act.Flow.TheVariants.{StateIn}
use Rattle.pst_scen.specs.declared.act.Link.{Link}
use Rattle.pst_scen.specs.declared.act.Link.TheVariants as link
use Rattle.pst_scen.specs.declared.scenario.Scenario.{Scenario}
use Rattle.pst_scen.specs.Scenarios.{reference_at, IsLinkOf, AreLinked}
use Rattle.pst_scen.specs.Flows.{Refers, Reads}
use Rattle.pst_scen.specs.Order.{Cause, Sequence, Buffer, Source, Previous, Replaced, Must, Directly, Through}
use Rattle.pst_scen.specs.Plans.{StandParallel}
use Rattle.pst_scen.specs.Refusals.{Refusal, Cycle, GroupClash, ParallelOrder, ParallelClash, GroupClashes, Two, One, IsRefused}
use Rattle.pst_legal.specs.ValueReading.{read}
use Rattle.pst_built.specs.SoFar as so-far
use Rattle.pst_built.specs.SoFar.{CauseSoFar, MustSoFar, HasRead}
use Rattle.pst_built.specs.OrderStaysLaws.{IsBarren, CyclesStay, GroupClashesStay, OwnClashesStay, ParallelOrdersStay, ParallelClashesStay}
use Rattle.pst_plan_so_far.specs.Laws.{PlansRefuseLists}

module _ (s : Scenario) (linked : AreLinked s.actions) where
  reads_some : (a pool : ℕ) (to : Link) → Reads s a pool to → to ≡ link.Nothing → ⊥
  reads_some a pool to refers e =
      let at : reference_at s.actions a refers.reference ≡ Some refers.filled = ap (option_and_then (λ (x : Act). slice_get x.references refers.reference)) refers.is_act ∙ refers.is in
      let kind = (linked a refers.reference refers.filled at).kind in
      subst (IsLinkOf StateIn) e (subst (λ f. IsLinkOf f to) refers.of_flow (subst (IsLinkOf refers.filled.flow) refers.linked kind))

  cause : (a b : ℕ) → Cause s a b → CauseSoFar s a b
  cause a b (Sequence before) = so-far.Sequence before
  cause a b (Buffer feeds) = so-far.Buffer feeds
  cause a b (Source pool to reads leads) = so-far.Source pool to reads leads
  cause a b (Previous pool to writes leads) = so-far.Previous pool to writes leads
  cause a b (Replaced pool to reads writes) = so-far.Replaced pool to (λ e. reads_some a pool to reads e) reads writes

  pub must : {a b : ℕ} → Must s a b → MustSoFar s a b
  must (Directly a x b direct together) = so-far.Directly a x b (direct.0, cause a x direct.1) together
  must (Through a c b one other) = so-far.Through a c b (must one) (must other)

turned : {s : Scenario} {a b : ℕ} → StandParallel s a b → StandParallel s b a
turned p = record {
  block = p.block;
  node = p.node;
  is = p.is;
  parallel = p.parallel;
  a_branch = p.b_branch;
  b_branch = p.a_branch;
  different = λ e. p.different (sym e);
  a_child = p.b_child;
  b_child = p.a_child;
  a_inside = p.b_inside;
  b_inside = p.a_inside;
}

module _ (cycles : CyclesStay) (groups : GroupClashesStay) (own : OwnClashesStay) (orders : ParallelOrdersStay) (clashes : ParallelClashesStay)
    (m : ModelTree) (root seed level : ℕ) (choices : List ℕ) (s : Scenario) (linked : AreLinked s.actions) (has : HasRead (read m root seed level choices) s) where
  by_group : {a b : ℕ} → GroupClashes s a b → IsBarren m root seed level choices
  by_group (Two a b before together conflict) = groups m root seed level choices s a b has together conflict
  by_group (One a below alone) = own m root seed level choices s a has below alone

  by_refusal : (r : Refusal) → IsRefused s r → IsBarren m root seed level choices
  by_refusal (Cycle a) is = cycles m root seed level choices s a has is.is.below (must s linked is.is.must)
  by_refusal (GroupClash a b) is = by_group is.1.is
  by_refusal (ParallelOrder a b) is =
      let it = is.2.is in
      ⊎_elim
      (λ one. orders m root seed level choices s a b has it.parallel (must s linked one))
      (λ other. orders m root seed level choices s b a has (turned it.parallel) (must s linked other))
      it.must
  by_refusal (ParallelClash a b) is =
      let it = is.3.is in
      clashes m root seed level choices s a b has it.parallel (λ e. let l = it.order in omega (arith, e, l)) it.contend

pub refuse : CyclesStay → GroupClashesStay → OwnClashesStay → ParallelOrdersStay → ParallelClashesStay → PlansRefuseLists
refuse cycles groups own orders clashes m root seed level choices s r linked has is = by_refusal cycles groups own orders clashes m root seed level choices s linked has r is
