-- What must come before an action ahead does so in each legal scenario that is read on.
use Rattle.std.proofs.Common.{◌≡◌, ◌≢◌, ◌⊎◌, ℕ, ◌<◌, List, ◌++◌, length, refl, sym, ◌∙◌, subst, inl, inr, ⊎_elim}
use Rattle.std.proofs.lemmas.Option.{slice_get_within}
use Rattle.std.proofs.lemmas.Bool.{cases_eq}
use Rattle.pst_model.specs.ModelTree.{ModelTree}
use Rattle.pst_scen.specs.declared.act.Flow.{Flow}
use Rattle.pst_scen.specs.declared.act.Flow.TheVariants.{StateIn, StateOut}
use Rattle.pst_scen.specs.declared.act.Link.{Link}
use Rattle.pst_scen.specs.declared.act.Link.TheVariants as link
use Rattle.pst_scen.specs.declared.scenario.Scenario.{Scenario}
use Rattle.pst_scen.specs.Flows.{Refers, Streams, FromFirst, FromSecond, Writes}
use Rattle.pst_scen.specs.Order as order
use Rattle.pst_scen.specs.Order.{Together, Itself, Linked, Must}
use Rattle.pst_legal.specs.ValueReading.{Whole, read}
use Rattle.pst_legal.specs.First.{ReadsLegal}
use Rattle.pst_legal.specs.Legal.{Legal}
use Rattle.pst_order.specs.Laws.{WholeHasNoCycle, MustKeepsGroups}
use Rattle.pst_built.specs.GoesOn.{GoesOn}
use Rattle.pst_built.specs.SoFar.{HasRead}
use Rattle.pst_built.specs.OrderStaysLaws.{OrderStays, OrdersStay}
use Rattle.pst_built.proofs.OrderStaysLonger.{longer_go_on}
use Rattle.pst_built.proofs.Stays.{refers_on}
use Rattle.pst_order_ahead.specs.Ahead.{Takes, MustAhead, Directly, Grouped, Through, AfterFirst, BeforeSource, AfterTaker}
use Rattle.pst_order_ahead.specs.Laws.{MustAheadComes}
use Rattle.pst_order_ahead.proofs.Chain.{takes_first, takes_next}

has_whole : (m : ModelTree) (root seed level : ℕ) (choices : List ℕ) (t : Scenario) → read m root seed level choices ≡ Whole t → HasRead (read m root seed level choices) t
has_whole m root seed level choices t is = subst (λ a. HasRead a t) (sym is) refl

pub legal_on : (m : ModelTree) (root seed level : ℕ) (choices more : List ℕ) (s t : Scenario) → HasRead (read m root seed level choices) s → ReadsLegal m root seed level (choices ++ more) t → GoesOn s t
legal_on m root seed level choices more s t has legal = longer_go_on m root seed level choices more s t has (has_whole m root seed level (choices ++ more) t legal.reads)

streams_back : (s : Scenario) (a b : ℕ) → Streams s a b → Streams s b a
streams_back s a b (FromFirst pool reference flow is refers) = FromSecond pool reference flow is refers
streams_back s a b (FromSecond pool reference flow is refers) = FromFirst pool reference flow is refers

group_along : {s : Scenario} {a b c : ℕ} → Together s a b → Together s b c → Together s a c
group_along g Itself = g
group_along g (Linked b c h l) = Linked b c (group_along g h) l

group_back : {s : Scenario} {a b : ℕ} → Together s a b → Together s b a
group_back Itself = Itself
group_back {s = s} (Linked b c h l) = group_along (Linked c b Itself (streams_back s b c l)) (group_back h)

initial_some : link.Initial ≡ link.Nothing → ⊥
initial_some e = cc

act_some : (a r : ℕ) → link.Act a r ≡ link.Nothing → ⊥
act_some a r e = cc

module _ (s t : Scenario) (on : GoesOn s t) where
  -- a reference whose link may be read only later
  pub refers_later : (a pool : ℕ) (flow : Flow) (to : Link) → Refers s a flow pool to → (now : Link) × Refers t a flow pool now
  refers_later a pool flow to r =
      let y = on.acts a r.act r.is_act in
      let g = y.2.references r.reference r.filled r.is in
      (g.0.link, record { act = y.0; reference = r.reference; filled = g.0; is_act = y.1; is = g.1; of_flow = g.2.flow ∙ r.of_flow; of_pool = g.2.pool ∙ r.of_pool; linked = refl })

  takes_on : (a pool : ℕ) (to : Link) → to ≢ link.Nothing → Takes s a pool to → Takes t a pool to
  takes_on a pool to some (inl reads) = inl (refers_on s t on a pool StateIn to some reads)
  takes_on a pool to some (inr writes) = inr (refers_on s t on a pool StateOut to some writes)

  module _ (none : WholeHasNoCycle) (keeps : MustKeepsGroups) (m : ModelTree) (root : ℕ) (legal : Legal m root t) (stay : OrderStays s t) where
    no_cycle : (a pool : ℕ) (to : Link) → Writes t a pool to → Must t a a → ⊥
    no_cycle a pool to x must = none t a legal.runs (slice_get_within t.actions a x.act x.is_act) must

    takes_in : (a pool : ℕ) (to : Link) → Takes t a pool to → a < length t.actions
    takes_in a pool to (inl x) = slice_get_within t.actions a x.act x.is_act
    takes_in a pool to (inr x) = slice_get_within t.actions a x.act x.is_act

    comes_after : (a b c pool reference : ℕ) (to : Link) → a ≢ b → Takes s a pool (link.Act c reference) → Writes s b pool to → Must t c b → Must t a b
    comes_after a b c pool reference to other takes writes now = by (cases_eq b c)
      where
        later : (to : Link) × Writes t b pool to
        later = refers_later b pool StateOut to writes

        by : (b ≡ c) ⊎ (b ≢ c) → Must t a b
        by (inl same) = absurd (no_cycle b pool later.0 later.1 (subst (λ x. Must t x b) (sym same) now))
        by (inr apart) =
            ⊎_elim (λ before. absurd (no_cycle b pool later.0 later.1 (order.Through b c b before now)))
            (λ more. ⊎_elim (λ same. absurd (other same)) (λ behind. behind) more)
            (takes_next m t legal.supplied pool b c a reference later.0 apart (takes_on a pool (link.Act c reference) (act_some c reference) takes) later.1)

    comes : {a b : ℕ} → MustAhead s a b → Must t a b
    comes (Directly a b direct) = order.Directly a b b (direct.0, stay.cause a b direct.1) Itself
    comes (Grouped a x b must together) = keeps t a x b (comes must) (group_back (stay.together b x together))
    comes (Through a c b one other) = order.Through a c b (comes one) (comes other)
    comes (AfterFirst a b pool to other takes writes) =
        let w = refers_later b pool StateOut to writes in
        takes_first m t legal.supplied pool a b w.0 other (takes_on a pool link.Initial initial_some takes) w.1
    comes (BeforeSource a b c pool reference to other takes writes must) =
        let w = refers_later a pool StateOut to writes in
        let now = comes must in
        ⊎_elim (λ is. is)
        (λ more. absurd (no_cycle a pool w.0 w.1 (⊎_elim (λ same. subst (λ x. Must t a x) same now) (λ behind. order.Through a c a now behind) more)))
        (takes_next m t legal.supplied pool a b c reference w.0 other (takes_on c pool (link.Act b reference) (act_some b reference) takes) w.1)
    comes (AfterTaker a b c pool reference to other takes writes must) = comes_after a b c pool reference to other takes writes (comes must)

pub must_comes : WholeHasNoCycle → MustKeepsGroups → OrdersStay → MustAheadComes
must_comes none keeps orders m root seed level choices more s t a b has legal must =
    comes s t (legal_on m root seed level choices more s t has legal) none keeps m root legal.legal (orders m root seed level choices more s t has legal.reads) must
