-- A linked scenario that isn't refused can run.
use Rattle.std.proofs.Common.{◌⊎◌, ℕ, ◌<◌, [], ◌++◌, length, refl, sym, subst, inl, inr, ⊎_elim, arith}
use Rattle.std.proofs.lemmas.Bool.{cases_order}
use Rattle.pst_scen.specs.declared.act.Link.{Link}
use Rattle.pst_scen.specs.declared.scenario.Scenario.{Scenario}
use Rattle.pst_scen.specs.Flows.{Streams, FromFirst, FromSecond, Reads, Writes, LeadsTo}
use Rattle.pst_scen.specs.Order.{Cause, Sequence, Buffer, Source, Previous, Replaced, Together, Itself, Linked, Must, Directly, Through}
use Rattle.pst_scen.specs.Conflicts.{Conflict}
use Rattle.pst_scen.specs.Trace.{events}
use Rattle.pst_scen.specs.Laws.{BeforeIsNeverItself}
use Rattle.pst_scen.specs.Plan.{Entries, widest}
use Rattle.pst_scen.specs.Plans.{Contend, StandParallel, CanRun, AreEntriesOf, IsPlanOf}
use Rattle.pst_scen.specs.Refusals.{Two, One, IsUnrefused}
use Rattle.pst_order.specs.Facts.{IsLinked}
use Rattle.pst_order.proofs.Joined.{refers_in, group_back, conflict_back}
use Rattle.pst_order.proofs.Sound.{Sound, IsAcyclic, IsNotOwnPrevious, one_link, source_place}
use Rattle.pst_order.proofs.FromLinks.{linked_chain}
use Rattle.pst_order.proofs.Completes.{rule_prefix}

contend_back : {s : Scenario} {a b : ℕ} → Contend s a b → Contend s b a
contend_back c =
    record { pool = c.pool; instance = c.instance; own = c.other; other = c.own; a_claims = c.b_claims; b_claims = c.a_claims; by_lock = ⊎_elim (λ k. inr k) (λ k. inl k) c.by_lock }

-- parallel branches, the other way round
pub other_way : {s : Scenario} {a b : ℕ} → StandParallel s a b → StandParallel s b a
other_way q =
    record {
      block = q.block;
      node = q.node;
      is = q.is;
      parallel = q.parallel;
      a_branch = q.b_branch;
      b_branch = q.a_branch;
      different = λ e. q.different (sym e);
      a_child = q.b_child;
      b_child = q.a_child;
      a_inside = q.b_inside;
      b_inside = q.a_inside;
    }

module _ (s : Scenario) (linked : IsLinked s) where
  -- a link leads to another action that there is
  leads_in : (a pool b : ℕ) (to : Link) → Reads s a pool to ⊎ Writes s a pool to → LeadsTo to b → b < length s.actions
  leads_in a pool b to w l =
      ⊎_elim (λ r. linked.links_in a pool b l.0 _ (subst (λ t. Reads s a pool t) l.1 r)) (λ r. linked.links_in a pool b l.0 _ (subst (λ t. Writes s a pool t) l.1 r)) w

  cause_in : (a b : ℕ) → Cause s a b → a < length s.actions
  cause_in a b (Sequence d) = let c = d.earlier.a_inside in linked.leaves_in c.leaf a c.node c.is c.of_act
  cause_in a b (Buffer d) = linked.links_in b d.pool a d.output _ d.input
  cause_in a b (Source pool to r leads) = leads_in b pool a to (inl r) leads
  cause_in a b (Previous pool to w leads) = leads_in b pool a to (inr w) leads
  cause_in a b (Replaced pool to r w) = refers_in r

  must_in : (a b : ℕ) → Must s a b → a < length s.actions
  must_in _ _ (Directly a x b d g) = cause_in a x d.1
  must_in _ _ (Through a c b p q) = must_in a c p

  streams_in : (b c : ℕ) → Streams s b c → c < length s.actions
  streams_in b c (FromFirst pool reference flow is r) = linked.links_in b pool c reference flow r
  streams_in b c (FromSecond pool reference flow is r) = refers_in r

  group_in : (a b : ℕ) → a < length s.actions → Together s a b → b < length s.actions
  group_in a _ l Itself = l
  group_in a _ l (Linked b c g k) = streams_in b c k

  not_own : IsNotOwnPrevious s
  not_own b pool to w l = linked.links_other b pool b l.0 _ (subst (λ t. Writes s b pool t) l.1 w) refl

  module _ (never : BeforeIsNeverItself) (p : Entries) (are : AreEntriesOf s p) (free : IsUnrefused s) where
    no_cycle : IsAcyclic s
    no_cycle a l m = free.no_cycle a (record { below = l; must = m })

    no_clash : (a b : ℕ) → Together s a b → Conflict s a b → ⊥
    no_clash a b g c =
        ⊎_elim c.0
        (λ q. ⊎_elim (λ l. free.no_group_clash a b (Two a b l g c)) (λ l. free.no_group_clash b a (Two b a l (group_back g) (conflict_back s a b c))) q)
        (cases_order a b)

    unrefused_sound : Sound s
    unrefused_sound =
        let chain = λ (pool : ℕ). linked_chain s pool linked no_cycle p are in
        record {
          must_in = λ a b l m. must_in a b m;
          group_in = group_in;
          before_other = λ b l d. never s b linked.preorder linked.one_leaf d;
          feeds_other = λ b d. linked.links_other b d.pool b d.output _ d.input refl;
          source_other = λ b pool to r l. linked.links_other b pool b l.0 _ (subst (λ t. Reads s b pool t) l.1 r) refl;
          previous_other = not_own;
          no_cycle = no_cycle;
          no_clash = no_clash;
          chain = chain;
          source = λ b pool to r. source_place s no_cycle not_own pool (chain pool) linked.states b to r (λ e. linked.reads_linked b pool (subst (λ t. Reads s b pool t) e r));
          same_link = λ b x pool to other last r v m n. one_link s no_cycle not_own pool (chain pool) linked.states b x to other last r v m n;
        }

    can_run : CanRun s
    can_run =
        let lanes = widest p.groups in
        let x = rule_prefix s unrefused_sound p are lanes (omega arith) [] tt in
        record { lanes = lanes; trace = events (x.more ++ x.blocks); legal = record { blocks = x.more ++ x.blocks; are = refl; legal = x.legal }; whole = x.whole }

    leaf_in : (a b : ℕ) → StandParallel s a b → a < length s.actions
    leaf_in a b q = linked.leaves_in q.a_inside.leaf a q.a_inside.node q.a_inside.is q.a_inside.of_act

    pub unrefused_plan : IsPlanOf s p
    unrefused_plan =
        record {
          entries = are;
          parallel = record {
            unordered = λ a b q m.
                ⊎_elim (λ e. no_cycle a (leaf_in a b q) (subst (λ v. Must s a v) (sym e) m))
                (λ o. ⊎_elim (λ l. free.no_parallel_order a b (record { order = l; parallel = q; must = inl m })) (λ l. free.no_parallel_order b a (record { order = l; parallel = other_way q; must = inr m })) o)
                (cases_order a b);
            undisputed = λ a b q n c.
                ⊎_elim n
                (λ o. ⊎_elim (λ l. free.no_parallel_clash a b (record { order = l; parallel = q; contend = c })) (λ l. free.no_parallel_clash b a (record { order = l; parallel = other_way q; contend = contend_back c })) o)
                (cases_order a b);
          };
          alone = λ a l c. free.no_group_clash a a (One a l c);
          runs = can_run;
        }
