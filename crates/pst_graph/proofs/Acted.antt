-- What the references and claims of two actions say of the scenario.
use Rattle.std.proofs.Common.{◌≡◌, ◌⊎◌, inl, inr, ⊎_elim, ℕ, slice_get, Some, refl, subst, sym, ◌∙◌}
use Rattle.pst_scen.specs.declared.act.Act.{Act}
use Rattle.pst_scen.specs.declared.act.Filled.{Filled}
use Rattle.pst_scen.specs.declared.act.Flow.{Flow}
use Rattle.pst_scen.specs.declared.act.Flow.TheVariants.{BufferIn, StateIn, StateOut}
use Rattle.pst_scen.specs.declared.act.Link.{Link}
use Rattle.pst_scen.specs.declared.act.Link.TheVariants as link
use Rattle.pst_scen.specs.declared.scenario.Scenario.{Scenario}
use Rattle.pst_scen.specs.Flows.{IsAct, Refers, Writes}
use Rattle.pst_scen.specs.Order.{Before, Cause, Sequence, Buffer, Source, Previous, Replaced}
use Rattle.pst_scen.specs.Conflicts.{Clash, Resource, FirstWrites, SecondWrites, Uses}
use Rattle.pst_scen.specs.Plans.{Contend}
use Rattle.pst_graph.specs.Links.{HasLink, HasUse, WritesUsed, HasDispute}
use Rattle.pst_graph.specs.Acts.{LinksOrder, ByBuffer, BySource, ByPrevious, ByReader, Touches}
use Rattle.pst_nodes.proofs.Climbs.{same_some}

pub one_act : (s : Scenario) (a : ℕ) (x y : Act) → IsAct s a x → IsAct s a y → x ≡ y
one_act s a x y is other = same_some x y (sym is ∙ other)

module _ (s : Scenario) (a : ℕ) (act : Act) (is_act : IsAct s a act) where
  -- a reference at a place of the action's list
  pub referred : (n : ℕ) (filled : Filled) → slice_get act.references n ≡ Some filled → Refers s a filled.flow filled.pool filled.link
  referred n filled is = record { act = act; reference = n; filled = filled; is_act = is_act; is = is; of_flow = refl; of_pool = refl; linked = refl }

  placed : {flow : Flow} {pool : ℕ} {to : Link} → (r : Refers s a flow pool to) → slice_get act.references r.reference ≡ Some r.filled
  placed r = subst (λ (x : Act). slice_get x.references r.reference ≡ Some r.filled) (one_act s a r.act act r.is_act is_act) r.is

  refers_of : (flow : Flow) (to : Link) (n : ℕ) (filled : Filled) → slice_get act.references n ≡ Some filled → filled.flow ≡ flow → filled.link ≡ to → Refers s a flow filled.pool to
  refers_of flow to n filled is of_flow linked = record { act = act; reference = n; filled = filled; is_act = is_act; is = is; of_flow = of_flow; of_pool = refl; linked = linked }

  link_refers : (flow : Flow) (b : ℕ) → (h : HasLink act.references flow b) → Refers s a flow h.filled.pool (link.Act b h.leads.0)
  link_refers flow b h = refers_of flow (link.Act b h.leads.0) h.reference h.filled h.is h.of_flow h.leads.1

  refers_link : (flow : Flow) (pool b reference : ℕ) → Refers s a flow pool (link.Act b reference) → HasLink act.references flow b
  refers_link flow pool b reference r = record { reference = r.reference; filled = r.filled; is = placed r; of_flow = r.of_flow; leads = (reference, r.linked) }

  uses_of : (pool : ℕ) → HasUse act.references pool → Uses s a pool
  uses_of pool u = (u.filled.link, ⊎_elim (λ k. inl (used StateIn k)) (λ k. inr (used StateOut k)) u.of_flow)
    where
      used : (flow : Flow) → u.filled.flow ≡ flow → Refers s a flow pool u.filled.link
      used flow of_flow = subst (λ (q : ℕ). Refers s a flow q u.filled.link) u.of_pool (refers_of flow u.filled.link u.reference u.filled u.is of_flow refl)

  of_uses : (pool other : ℕ) → other ≡ pool → Uses s a pool → HasUse act.references other
  of_uses pool other same (to, inl r) = record { reference = r.reference; filled = r.filled; is = placed r; of_flow = inl r.of_flow; of_pool = r.of_pool ∙ sym same }
  of_uses pool other same (to, inr r) = record { reference = r.reference; filled = r.filled; is = placed r; of_flow = inr r.of_flow; of_pool = r.of_pool ∙ sym same }

module _ (s : Scenario) (a b : ℕ) (one other : Act) (is_one : IsAct s a one) (is_other : IsAct s b other) where
  pub order_cause : LinksOrder one other a → Cause s a b
  order_cause (ByBuffer h) = Buffer (record { pool = h.filled.pool; output = h.leads.0; input = link_refers s b other is_other BufferIn a h })
  order_cause (BySource h) = Source h.filled.pool (link.Act a h.leads.0) (link_refers s b other is_other StateIn a h) (h.leads.0, refl)
  order_cause (ByPrevious h) = Previous h.filled.pool (link.Act a h.leads.0) (link_refers s b other is_other StateOut a h) (h.leads.0, refl)
  order_cause (ByReader h) =
      let w = h.reads.replaced in
      Replaced h.filled.pool h.filled.link
      (refers_of s a one is_one StateIn h.filled.link h.reference h.filled h.is h.reads.of_flow refl)
      (subst (λ (q : ℕ). Refers s b StateOut q h.filled.link) w.same_pool (refers_of s b other is_other StateOut h.filled.link w.reference w.filled w.is w.of_flow w.same_link))

  pub cause_order : Cause s a b → Before s a b ⊎ LinksOrder one other a
  cause_order (Sequence h) = inl h
  cause_order (Buffer h) = inr (ByBuffer (refers_link s b other is_other BufferIn h.pool a h.output h.input))
  cause_order (Source pool to r leads) = inr (BySource (refers_link s b other is_other StateIn pool a leads.0 (subst (λ (t : Link). Refers s b StateIn pool t) leads.1 r)))
  cause_order (Previous pool to r leads) = inr (ByPrevious (refers_link s b other is_other StateOut pool a leads.0 (subst (λ (t : Link). Refers s b StateOut pool t) leads.1 r)))
  cause_order (Replaced pool to r w) =
      inr (ByReader (record {
        reference = r.reference;
        filled = r.filled;
        is = placed s a one is_one r;
        reads = record {
          of_flow = r.of_flow;
          replaced = record {
            reference = w.reference;
            filled = w.filled;
            is = placed s b other is_other w;
            of_flow = w.of_flow;
            same_pool = w.of_pool ∙ sym r.of_pool;
            same_link = w.linked ∙ sym r.linked;
          };
        };
      }))

  pub dispute_contend : HasDispute one.claims other.claims → Contend s a b
  dispute_contend h =
      let d = h.disputed in
      record {
        pool = h.claimed.pool;
        instance = h.claimed.instance;
        own = h.claimed.lock;
        other = d.claimed.lock;
        a_claims = record { claim = h.claim; claimed = h.claimed; is = record { act = one; is_act = is_one; is = h.is }; of_pool = refl; of_instance = refl; by_lock = refl };
        b_claims = record { claim = d.claim; claimed = d.claimed; is = record { act = other; is_act = is_other; is = d.is }; of_pool = sym d.disputed.same_pool; of_instance = sym d.disputed.same_instance; by_lock = refl };
        by_lock = d.disputed.by_lock;
      }

  pub contend_dispute : Contend s a b → HasDispute one.claims other.claims
  contend_dispute h =
      let x = h.a_claims in
      let y = h.b_claims in
      record {
        claim = x.claim;
        claimed = x.claimed;
        is = subst (λ (v : Act). slice_get v.claims x.claim ≡ Some x.claimed) (one_act s a x.is.act one x.is.is_act is_one) x.is.is;
        disputed = record {
          claim = y.claim;
          claimed = y.claimed;
          is = subst (λ (v : Act). slice_get v.claims y.claim ≡ Some y.claimed) (one_act s b y.is.act other y.is.is_act is_other) y.is.is;
          disputed = record {
            same_pool = x.of_pool ∙ sym y.of_pool;
            same_instance = x.of_instance ∙ sym y.of_instance;
            by_lock = ⊎_elim (λ k. inl (x.by_lock ∙ k)) (λ k. inr (y.by_lock ∙ k)) h.by_lock;
          };
        };
      }

  writes_of : (h : WritesUsed one.references other.references) → Writes s a h.filled.pool h.filled.link
  writes_of h = refers_of s a one is_one StateOut h.filled.link h.reference h.filled h.is h.writes.of_flow refl

  pub first_touches : WritesUsed one.references other.references → Clash s a b
  first_touches h = FirstWrites h.filled.pool h.filled.link (writes_of h) (uses_of s b other is_other h.filled.pool h.writes.used)

  pub first_touched : (pool : ℕ) (to : Link) → Writes s a pool to → Uses s b pool → WritesUsed one.references other.references
  first_touched pool to w u =
      record {
        reference = w.reference;
        filled = w.filled;
        is = placed s a one is_one w;
        writes = record { of_flow = w.of_flow; used = of_uses s b other is_other pool w.filled.pool w.of_pool u };
      }

clash_back : {s : Scenario} {a b : ℕ} → Clash s a b → Clash s b a
clash_back (Resource pool i own other c d h) = Resource pool i other own d c (⊎_elim (λ k. inr k) (λ k. inl k) h)
clash_back (FirstWrites pool to w u) = SecondWrites pool to u w
clash_back (SecondWrites pool to u w) = FirstWrites pool to w u

module _ (s : Scenario) (a b : ℕ) (one other : Act) (is_one : IsAct s a one) (is_other : IsAct s b other) where
  pub touches_clash : Touches one other → Clash s a b
  touches_clash (inl h) = first_touches s a b one other is_one is_other h
  touches_clash (inr h) = clash_back (first_touches s b a other one is_other is_one h)

  pub clash_touches : Clash s a b → Contend s a b ⊎ Touches one other
  clash_touches (Resource pool i own oth c d h) = inl (record { pool = pool; instance = i; own = own; other = oth; a_claims = c; b_claims = d; by_lock = h })
  clash_touches (FirstWrites pool to w u) = inr (inl (first_touched s a b one other is_one is_other pool to w u))
  clash_touches (SecondWrites pool to u w) = inr (inr (first_touched s b a other one is_other is_one pool to w u))

pub contend_clash : (s : Scenario) (a b : ℕ) → Contend s a b → Clash s a b
contend_clash s a b h = Resource h.pool h.instance h.own h.other h.a_claims h.b_claims h.by_lock
