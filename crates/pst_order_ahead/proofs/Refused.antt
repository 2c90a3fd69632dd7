-- Where what is read is refused ahead, no legal scenario is ahead.
use Rattle.std.proofs.Common.{◌≢◌, ◌⊎◌, ℕ, List, ◌++◌, sym, subst, inl, inr}
use Rattle.std.proofs.lemmas.Option.{slice_get_within}
use Rattle.pst_model.specs.ModelTree.{ModelTree}
use Rattle.pst_scen.specs.declared.act.Flow.TheVariants.{StateIn}
use Rattle.pst_scen.specs.declared.act.Link.TheVariants as link
use Rattle.pst_scen.specs.declared.scenario.Scenario.{Scenario}
use Rattle.pst_scen.specs.Scenarios.{IsLinkOf}
use Rattle.pst_scen.specs.Flows.{Reads}
use Rattle.pst_scen.specs.Order.{Must}
use Rattle.pst_scen.specs.Conflicts.{Clash, Resource, FirstWrites, SecondWrites}
use Rattle.pst_scen.specs.Plans.{StandParallel}
use Rattle.pst_legal.specs.ValueReading.{read}
use Rattle.pst_legal.specs.First.{ReadsLegal}
use Rattle.pst_legal.specs.Legal.{Legal}
use Rattle.pst_built.proofs.Spots.{at_act}
use Rattle.pst_built.proofs.Lists.{get_below}
use Rattle.pst_built.specs.SoFar.{HasRead}
use Rattle.pst_built.specs.OrderStaysLaws.{IsBarren, OrderStays, OrdersStay, GroupClashesStay}
use Rattle.pst_order_ahead.specs.Ahead.{IsRefusedAhead, Cycle, GroupClash, ParallelOrder, ParallelClash}
use Rattle.pst_order_ahead.specs.Laws.{MustAheadComes, RefusalsAheadStay}
use Rattle.pst_order_ahead.proofs.Chain.{users_ordered}
use Rattle.pst_order_ahead.proofs.Comes.{legal_on}
use Rattle.pst_order.specs.Laws.{WholeHasNoCycle}

turned : (s : Scenario) (a b : ℕ) → StandParallel s a b → StandParallel s b a
turned s a b p = record {
  block = p.block;
  node = p.node;
  is = p.is;
  parallel = p.parallel;
  a_branch = p.b_branch;
  b_branch = p.a_branch;
  different = λ e. p.different (sym e);
  a_child = p.b_child;
  b_child = p.a_child;
  a_inside = p.b_inside;
  b_inside = p.a_inside;
}

module _ (m : ModelTree) (root : ℕ) (t : Scenario) (legal : Legal m root t) where
  -- a read of a legal scenario has a source
  reads_some : (pool a : ℕ) → Reads t a pool link.Nothing → ⊥
  reads_some pool a x =
      let kind = (legal.scenario.links a x.reference x.filled (at_act t.actions a x.reference x.act x.filled x.is_act x.is)).kind in
      subst (IsLinkOf StateIn) x.linked (subst (λ f. IsLinkOf f x.filled.link) x.of_flow kind)

  unordered : (a b : ℕ) → StandParallel t a b → Must t a b ⊎ Must t b a → ⊥
  unordered a b parallel (inl must) = legal.parallel.unordered a b parallel must
  unordered a b parallel (inr must) = legal.parallel.unordered b a (turned t a b parallel) must

  no_clash : (a b : ℕ) → StandParallel t a b → a ≢ b → Clash t a b → ⊥
  no_clash a b parallel other (Resource pool instance own far one two lock) =
      legal.parallel.undisputed a b parallel other (record { pool = pool; instance = instance; own = own; other = far; a_claims = one; b_claims = two; by_lock = lock })
  no_clash a b parallel other (FirstWrites pool to writes uses) =
      unordered b a (turned t a b parallel) (users_ordered m t legal.supplied pool (reads_some pool) b a to (λ e. other (sym e)) uses writes)
  no_clash a b parallel other (SecondWrites pool to uses writes) = unordered a b parallel (users_ordered m t legal.supplied pool (reads_some pool) a b to other uses writes)

module _ (no_cycle : WholeHasNoCycle) (orders : OrdersStay) (groups : GroupClashesStay) (ahead : MustAheadComes)
    (m : ModelTree) (root seed level : ℕ) (choices : List ℕ) (s : Scenario) (has : HasRead (read m root seed level choices) s) where
  stay : (more : List ℕ) (t : Scenario) → ReadsLegal m root seed level (choices ++ more) t → OrderStays s t
  stay more t legal = orders m root seed level choices more s t has legal.reads

  barren : IsRefusedAhead s → IsBarren m root seed level choices
  barren (Cycle a below must) more t legal =
      let x = get_below s.actions a below in
      let y = (legal_on m root seed level choices more s t has legal).acts a x.0 x.1 in
      no_cycle t a legal.legal.runs (slice_get_within t.actions a y.0 y.1) (ahead m root seed level choices more s t a a has legal must)
  barren (GroupClash a b together conflict) more t legal = groups m root seed level choices s a b has together conflict more t legal
  barren (ParallelOrder a b parallel must) more t legal =
      legal.legal.parallel.unordered a b ((stay more t legal).parallel a b parallel) (ahead m root seed level choices more s t a b has legal must)
  barren (ParallelClash a b parallel conflict) more t legal =
      let now = (stay more t legal).conflict a b conflict in
      no_clash m root t legal.legal a b ((stay more t legal).parallel a b parallel) now.0 now.1

pub refusals_stay : WholeHasNoCycle → OrdersStay → GroupClashesStay → MustAheadComes → RefusalsAheadStay
refusals_stay no_cycle orders groups ahead m root seed level choices s has refused = barren no_cycle orders groups ahead m root seed level choices s has refused
