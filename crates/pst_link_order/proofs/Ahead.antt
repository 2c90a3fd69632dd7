-- What the written scenario orders must come in that order ahead.
use Rattle.std.proofs.Common.{◌≡◌, ◌≢◌, ◌⊎◌, ℕ, ◌<◌, length, true, refl, sym, ap, ◌∙◌, subst, inl, inr, ⊎_elim, arith}
use Rattle.std.specs.Prelude.{Bool}
use Rattle.std.proofs.lemmas.List.{length-map}
use Rattle.pst_scen.specs.declared.act.Act.{Act}
use Rattle.pst_scen.specs.declared.act.Flow.{Flow}
use Rattle.pst_scen.specs.declared.act.Flow.TheVariants.{BufferIn, StreamIn, StreamOut, StateIn, StateOut}
use Rattle.pst_scen.specs.declared.act.Link.{Link}
use Rattle.pst_scen.specs.declared.act.Link.TheVariants as link
use Rattle.pst_scen.specs.declared.scenario.Scenario.{Scenario}
use Rattle.pst_scen.specs.Tree.{IsNode, IsChild, Contains-act, StandsEarlier, IsReleased}
use Rattle.pst_scen.specs.Flows.{Refers, Streams, FromFirst, FromSecond, Writes, Claims}
use Rattle.pst_scen.specs.Order as order
use Rattle.pst_scen.specs.Order.{Before, Together, Itself, Linked, Cause, Must}
use Rattle.pst_scen.specs.Conflicts.{Clash, Resource, FirstWrites, SecondWrites, Uses}
use Rattle.pst_scen.specs.Plan.{Entries}
use Rattle.pst_scen.specs.Plans.{StandParallel, IsPlanOf}
use Rattle.pst_scen.specs.Refusals.{GroupClashes, Two, One}
use Rattle.pst_graph.specs.declared.planning.PlanEnd.{PlanEnd}
use Rattle.pst_graph.specs.declared.planning.PlanEnd.TheVariants as end
use Rattle.pst_graph.specs.Ends.{IsEndOf}
use Rattle.pst_built.specs.SoFar as so-far
use Rattle.pst_order_ahead.specs.Ahead.{MustAhead, Directly, Grouped, Through, IsRefusedAhead, Cycle, GroupClash, ParallelOrder, ParallelClash}
use Rattle.pst_link_order.specs.Reasons.{IsWhy, IsReason, IsUse}
use Rattle.pst_link_order.specs.Takes.{IsAheadBy}
use Rattle.pst_link_order.specs.Written.{AreWritten, IsWrittenOf, Counts}
use Rattle.pst_link_order.proofs.Why.{all_at}

one_act : (a b r q : ℕ) → link.Act a r ≡ link.Act b q → a ≡ b
one_act a b r q e = cc

streams_back : (s : Scenario) (a b : ℕ) → Streams s a b → Streams s b a
streams_back s a b (FromFirst pool reference flow is refers) = FromSecond pool reference flow is refers
streams_back s a b (FromSecond pool reference flow is refers) = FromFirst pool reference flow is refers

turned : (s : Scenario) (a b : ℕ) → StandParallel s a b → StandParallel s b a
turned s a b p = record {
  block = p.block;
  node = p.node;
  is = p.is;
  parallel = p.parallel;
  a_branch = p.b_branch;
  b_branch = p.a_branch;
  different = λ e. p.different (sym e);
  a_child = p.b_child;
  b_child = p.a_child;
  a_inside = p.b_inside;
  b_inside = p.a_inside;
}

module _ (s t : Scenario) (written : AreWritten s t.actions) where
  pub reason : (a pool : ℕ) (flow : Flow) (to : Link) (x : Refers t a flow pool to) → IsReason s a x.filled
  reason a pool flow to x = all_at (IsReason s a) x.act.references x.reference x.filled (written a x.act x.is_act).references x.is

  -- what a reference says of what it is linked to
  pub why : (a pool b q : ℕ) (flow : Flow) → Refers t a flow pool (link.Act b q) → IsWhy s a b flow
  why a pool b q flow x =
      let r = reason a pool flow (link.Act b q) x in
      let same : r.other ≡ b = one_act r.other b r.link.0 q (sym r.link.1 ∙ x.linked) in
      subst (λ other. IsWhy s a other flow) same (subst (IsWhy s a r.other) x.of_flow r.why)

  -- and no reference is to a state pool
  pub no_read : (a pool : ℕ) (to : Link) → Refers t a StateIn pool to → ⊥
  no_read a pool to x = let r = reason a pool StateIn to x in subst (IsWhy s a r.other) x.of_flow r.why

  pub no_write : (a pool : ℕ) (to : Link) → Refers t a StateOut pool to → ⊥
  no_write a pool to x = let r = reason a pool StateOut to x in subst (IsWhy s a r.other) x.of_flow r.why

  joined : (a b : ℕ) (flow : Flow) → (flow ≡ StreamIn) ⊎ (flow ≡ StreamOut) → IsWhy s a b flow → Streams s a b
  joined a b flow (inl e) is = subst (IsWhy s a b) e is
  joined a b flow (inr e) is = absurd (subst (IsWhy s a b) e is)

  streams : (a b : ℕ) → Streams t a b → Streams s a b
  streams a b (FromFirst pool reference flow kind x) = joined a b flow kind (why a pool b reference flow x)
  streams a b (FromSecond pool reference flow kind x) = streams_back s b a (joined b a flow kind (why b pool a reference flow x))

  together : (a b : ℕ) → Together t a b → Together s a b
  together a _ Itself = Itself
  together a _ (Linked b c rest link) = Linked b c (together a b rest) (streams b c link)

  module _ (nodes : t.nodes ≡ s.nodes) where
    before : (a b : ℕ) → Before t a b → Before s a b
    before a b x = record {
      sequence = x.sequence;
      earlier = subst (λ ns. StandsEarlier ns x.sequence a b) nodes x.earlier;
      awaited = λ h. x.awaited (subst (λ ns. IsReleased ns x.sequence a) (sym nodes) h);
    }

    cause : (a b : ℕ) → a ≢ b → Cause t a b → MustAhead s a b
    cause a b different (order.Sequence x) = Directly a b (different, so-far.Sequence (before a b x))
    cause a b different (order.Buffer x) = why b x.pool a x.output BufferIn x.input
    cause a b different (order.Source pool to reads leads) = absurd (no_read b pool to reads)
    cause a b different (order.Previous pool to writes leads) = absurd (no_write b pool to writes)
    cause a b different (order.Replaced pool to reads writes) = absurd (no_read a pool to reads)

    pub must : {a b : ℕ} → Must t a b → MustAhead s a b
    must (order.Directly a x b direct group) = Grouped a x b (cause a x direct.0 direct.1) (together b x group)
    must (order.Through a c b one other) = Through a c b (must one) (must other)

    parallel : (a b : ℕ) → StandParallel t a b → StandParallel s a b
    parallel a b p = record {
      block = p.block;
      node = p.node;
      is = subst (λ ns. IsNode ns p.block p.node) nodes p.is;
      parallel = p.parallel;
      a_branch = p.a_branch;
      b_branch = p.b_branch;
      different = p.different;
      a_child = subst (λ ns. IsChild ns p.a_branch p.block) nodes p.a_child;
      b_child = subst (λ ns. IsChild ns p.b_branch p.block) nodes p.b_child;
      a_inside = subst (λ ns. Contains-act ns p.a_branch a) nodes p.a_inside;
      b_inside = subst (λ ns. Contains-act ns p.b_branch b) nodes p.b_inside;
    }

  -- ---- claims are uses

  use_of : (a pool instance : ℕ) (lock : Bool) → Claims t a pool instance lock → Uses s a pool × (lock ≡ true → (to : Link) × Writes s a pool to)
  use_of a pool instance lock x =
      let u = all_at (IsUse s a) x.is.act.claims x.claim x.claimed (written a x.is.act x.is.is_act).claims x.is.is in (
        subst (Uses s a) x.of_pool u.uses,
        λ e. subst (λ q. (to : Link) × Writes s a q to) x.of_pool (u.writes (x.by_lock ∙ e)),
      )

  disputed : (a b pool instance : ℕ) (own other : Bool) → Claims t a pool instance own → Claims t b pool instance other → (own ≡ true) ⊎ (other ≡ true) → Clash s a b
  disputed a b pool instance own other x y lock =
      ⊎_elim
      (λ e. let w = (use_of a pool instance own x).1 e in FirstWrites pool w.0 w.1 (use_of b pool instance other y).0)
      (λ e. let w = (use_of b pool instance other y).1 e in SecondWrites pool w.0 (use_of a pool instance own x).0 w.1) lock

  clash : (a b : ℕ) → Clash t a b → Clash s a b
  clash a b (Resource pool instance own other x y lock) = disputed a b pool instance own other x y lock
  clash a b (FirstWrites pool to writes uses) = absurd (no_write a pool to writes)
  clash a b (SecondWrites pool to uses writes) = absurd (no_write b pool to writes)

module _ (s t : Scenario) (w : IsWrittenOf s t) where
  abbrev acts : AreWritten s t.actions
  acts = w.acts.written

  same_count : length t.actions ≡ length s.actions
  same_count = sym (length-map t.actions (λ (act : Act). act.node)) ∙ ap length w.acts.leaves ∙ length-map s.actions (λ (act : Act). act.node)

  by_group : {a b : ℕ} → GroupClashes t a b → a ≢ b → IsRefusedAhead s
  by_group (Two a b less group conflict) different = GroupClash a b (together s t acts a b group) (different, clash s t acts a b conflict.1)
  by_group (One a below alone) different = absurd (different refl)

  pub judged : (e : PlanEnd) → IsEndOf t e → Counts e → IsRefusedAhead s
  judged (end.Cycle a) is counts = Cycle a (subst (λ k. a < k) same_count is.is.below) (must s t acts w.nodes is.is.must)
  judged (end.GroupClash a b) is counts = by_group is.1.is counts
  judged (end.ParallelOrder a b) is counts =
      let it = is.2.is in
      let beside = parallel s t acts w.nodes a b it.parallel in
      ⊎_elim (λ one. ParallelOrder a b beside (must s t acts w.nodes one)) (λ other. ParallelOrder b a (turned s a b beside) (must s t acts w.nodes other)) it.must
  judged (end.ParallelClash a b) is counts =
      let it = is.3.is in
      let c = it.contend in
      ParallelClash a b (parallel s t acts w.nodes a b it.parallel)
      ((λ e. let l = it.order in omega (arith, l, e)), disputed s t acts a b c.pool c.instance c.own c.other c.a_claims c.b_claims c.by_lock)
  judged end.NoMemory is counts = absurd counts

  pub plan_ahead : (p : Entries) → IsPlanOf t p → IsAheadBy s p
  plan_ahead p plan = record {
    many = plan.entries.many ∙ same_count;
    must = λ a b a_in b_in has. must s t acts w.nodes ((plan.entries.must a b (subst (λ k. a < k) (sym same_count) a_in) (subst (λ k. b < k) (sym same_count) b_in)).0 has);
  }
