-- What the rule has begun can be completed.
use Rattle.std.proofs.Common.{◌≡◌, ◌⊎◌, ℕ, zero, suc, ◌+◌, ◌*◌, ◌<◌, ◌≤◌, List, [], ◌∷◌, ◌++◌, length, get_or, refl, sym, subst, inl, inr, ⊎_elim, arith, append_assoc, length-append}
use Rattle.pst_scen.specs.declared.scenario.Scenario.{Scenario}
use Rattle.pst_scen.specs.declared.event.Event.TheVariants.{End}
use Rattle.pst_scen.specs.Order.{Through}
use Rattle.pst_scen.specs.Trace.{Started, Ended, Runs, IsWhole, AreFree, Prefix, Block, Starts, Ends, starts_of, events_of, events}
use Rattle.pst_scen.specs.Plan.{Entries, members, widest}
use Rattle.pst_scen.specs.Plans.{AreEntriesOf}
use Rattle.pst_scen.specs.Core.{IsReady}
use Rattle.pst_order.specs.Rule.{AreByRule}
use Rattle.pst_order.proofs.Elements.{cons_first}
use Rattle.pst_order.proofs.Events.{ended_or, started_or, runs_or, ended_more, ended_new, started_more, started_new, member_starts, length_starts}
use Rattle.pst_order.proofs.Joined.{must_along}
use Rattle.pst_order.proofs.Fair.{AreFair, rule_fair, group_started, started_inside}
use Rattle.pst_order.proofs.Counts.{Decided, one, count, count_le, count_lt, find, least, numbers, length-numbers, numbers-at, numbers_below}
use Rattle.pst_order.proofs.Lists.{ascending_distinct, count_many}
use Rattle.pst_order.proofs.Sound.{Sound}
use Rattle.pst_order.proofs.Members.{whole_group, few_members, Ordered, ordered_or}
use Rattle.pst_order.proofs.Agrees.{rule_legal}

pub not_decided : {P : ℕ → Type 0} → Decided P → Decided (λ x. P x → ⊥)
not_decided d x = ⊎_elim (λ p. inr (λ n. n p)) (λ n. inl n) (d x)

count_all : (P : ℕ → Type 0) (d : Decided P) (n : ℕ) → count P d n ≤ n
count_all P d zero = omega arith
count_all P d (suc n) = by_one (d n) (count_all P d n)
  where
    by_one : (p : P n ⊎ (P n → ⊥)) → count P d n ≤ n → one p + count P d n ≤ suc n
    by_one (inl a) l = omega (arith, l)
    by_one (inr a) l = omega (arith, l)

-- HOW MANY HAVEN'T STARTED, AND HOW MANY HAVEN'T ENDED

module _ (s : Scenario) where
  pub unstarted : List Block → ℕ
  unstarted h = count (λ a. Started (events h) a → ⊥) (not_decided (started_or (events h))) (length s.actions)

  pub unended : List Block → ℕ
  unended h = count (λ a. Ended (events h) a → ⊥) (not_decided (ended_or (events h))) (length s.actions)

  pub all_unstarted : (h : List Block) → unstarted h ≤ length s.actions
  unfolding unstarted
  all_unstarted h = count_all (λ a. Started (events h) a → ⊥) (not_decided (started_or (events h))) (length s.actions)

  pub all_unended : (h : List Block) → unended h ≤ length s.actions
  unfolding unended
  all_unended h = count_all (λ a. Ended (events h) a → ⊥) (not_decided (ended_or (events h))) (length s.actions)

  pub fewer_unstarted : (b : Block) (h : List Block) → unstarted (b ∷ h) ≤ unstarted h
  unfolding unstarted
  fewer_unstarted b h =
      count_le (λ a. Started (events (b ∷ h)) a → ⊥) (λ a. Started (events h) a → ⊥) (not_decided (started_or (events (b ∷ h)))) (not_decided (started_or (events h))) (λ a n e. n (started_more (events h) (events_of b) a e)) (length s.actions)

  pub fewer_unended : (b : Block) (h : List Block) → unended (b ∷ h) ≤ unended h
  unfolding unended
  fewer_unended b h =
      count_le (λ a. Ended (events (b ∷ h)) a → ⊥) (λ a. Ended (events h) a → ⊥) (not_decided (ended_or (events (b ∷ h)))) (not_decided (ended_or (events h))) (λ a n e. n (ended_more (events h) (events_of b) a e)) (length s.actions)

  pub ended_fewer : (b : Block) (h : List Block) (a : ℕ) → a < length s.actions → (Ended (events h) a → ⊥) → Ended (events_of b) a → unended (b ∷ h) < unended h
  unfolding unended
  ended_fewer b h a l n e =
      count_lt (λ a. Ended (events (b ∷ h)) a → ⊥) (λ a. Ended (events h) a → ⊥) (not_decided (ended_or (events (b ∷ h)))) (not_decided (ended_or (events h))) (λ a n e. n (ended_more (events h) (events_of b) a e)) (length s.actions) a l (λ k. k (ended_new (events h) (events_of b) a e)) n

  -- a group that starts is no longer among what hasn't
  pub starts_fewer : (lanes : ℕ) (h : List Block) (ms us : List ℕ) → AreFair s lanes (Starts ms us ∷ h) → unstarted (Starts ms us ∷ h) + length ms ≤ unstarted h
  unfolding unstarted
  starts_fewer lanes h ms us k =
      count_many ms (λ x. Started (events (Starts ms us ∷ h)) x → ⊥) (λ x. Started (events h) x → ⊥) (not_decided (started_or (events (Starts ms us ∷ h)))) (not_decided (started_or (events h))) (length s.actions) (ascending_distinct ms k.1.group.ascending)
      (λ x n q. n (started_more (events h) (starts_of ms us) x q))
      (λ m c. (k.1.group.inside m c, k.1.fresh m c, λ n. n (started_new (events h) (starts_of ms us) m (member_starts ms us m k.1.free.many c))))

  -- the running action that ends is no longer among what hasn't
  pub end_fewer : (lanes : ℕ) (h : List Block) (a : ℕ) → AreFair s lanes (Ends a ∷ h) → unended (Ends a ∷ h) < unended h
  end_fewer lanes h a k = ended_fewer (Ends a) h a (started_inside s lanes h k.0 a k.1.0) k.1.1 (cons_first (End a) [])

  fits : (lanes : ℕ) (h : List Block) → AreFair s lanes h → length (events h) + unstarted h + unended h ≤ 2 * length s.actions
  fits lanes [] k = let a = all_unstarted [] in let b = all_unended [] in omega (arith, a, b)
  fits lanes (Starts ms us ∷ h) k =
      let r = fits lanes h k.0 in
      let e : length (events h ++ starts_of ms us) ≡ length (events h) + length (starts_of ms us) = length-append (events h) (starts_of ms us) in
      let f = length_starts ms us in
      let a = starts_fewer lanes h ms us k in
      let b = fewer_unended (Starts ms us) h in
      omega (arith, r, e, f, a, b, k.1.free.many)
  fits lanes (Ends c ∷ h) k =
      let r = fits lanes h k.0 in
      let e : length (events h ++ End c ∷ []) ≡ length (events h) + 1 = length-append (events h) (End c ∷ []) in
      let a = fewer_unstarted (Ends c) h in
      let b = end_fewer lanes h c k in
      omega (arith, r, e, a, b)

  -- There are no more than two events for each action.
  pub all_fit : (lanes : ℕ) (h : List Block) → AreFair s lanes h → length (events h) ≤ 2 * length s.actions
  all_fit lanes h k = let r = fits lanes h k in omega (arith, r)

module _ (s : Scenario) (sound : Sound s) (p : Entries) (are : AreEntriesOf s p) (lanes : ℕ) (wide : widest p.groups ≤ lanes) where
  -- Where nothing runs and an action hasn't started, a group can start.
  pub can_open : (h : List Block) → AreByRule s lanes h → ((a : ℕ) → Runs (events h) a → ⊥) → (x : ℕ) → x < length s.actions → (Started (events h) x → ⊥) → (ms : List ℕ) × (us : List ℕ) × IsReady s (events h) ms × AreFree lanes (events h) ms us
  can_open h r still x l n =
      opened (least (Ordered s) (ordered_or s p are)
      (λ a b c q w. record { a_in = q.a_in; b_in = w.b_in; must = Through a b c q.must w.must })
      (λ a q. sound.no_cycle a q.a_in q.must)
      (λ a. Started (events h) a → ⊥) (not_decided (started_or (events h))) (length s.actions) x l n)
    where
      opened : (m : ℕ) × (m < length s.actions) × (Started (events h) m → ⊥) × ((y : ℕ) → y < length s.actions → (Started (events h) y → ⊥) → Ordered s y m → ⊥) → (ms : List ℕ) × (us : List ℕ) × IsReady s (events h) ms × AreFree lanes (events h) ms us
      opened (m, below, new, first) =
          let ms = members p.groups (get_or p.groups m 0) in
          let g = whole_group s p are sound.group_in m below in
          let many = length-numbers 0 (length ms) in
          let room : length ms ≤ lanes = omega (arith, few_members s p are m below, wide) in (
            ms,
            numbers 0 (length ms),
            record {
              group = g.0;
              fresh = λ a i b. new (group_started s lanes h (rule_fair s lanes h r) a m (g.0.one a m i g.1) b);
              awaited = λ a b i q.
                  let d = must_along q (g.0.one b m i g.1) in
                  let a_in = sound.must_in a m below d in
                  ⊎_elim (λ e. e)
                  (λ k. absurd (⊎_elim (λ y. still a (y, k)) (λ y. first a a_in y (record { a_in = a_in; b_in = below; must = d })) (started_or (events h) a)))
                  (ended_or (events h) a);
              clear = λ a b y i c. still a y;
            },
            record {
              many = many;
              different = λ i j k q e.
                  let q' : j < length ms = omega (arith, q, many) in
                  let y = numbers-at 0 (length ms) i (omega (arith, k, q')) in
                  let z = numbers-at 0 (length ms) j q' in
                  omega (arith, k, y, z, e);
              below = λ v i. let y = numbers_below 0 (length ms) v i in omega (arith, y, room);
              idle = λ v i b. still b.0 ((v, b.1), b.2);
            },
          )

  measure : List Block → ℕ
  measure h = unstarted s h + unended s h

  -- it is whole, or goes on
  goes_on : (h : List Block) → AreByRule s lanes h → IsWhole s (events h) ⊎ ((b : Block) × AreByRule s lanes (b ∷ h) × (measure (b ∷ h) < measure h))
  unfolding measure
  goes_on h r =
      ⊎_elim
      (λ f. let x = end_fewer s lanes h f.0 (rule_fair s lanes h r, f.2) in
      let y = fewer_unstarted s (Ends f.0) h in
      inr (Ends f.0, (r, f.2), omega (arith, x, y)))
      (λ still. ⊎_elim
      (λ f. inr (opens (λ a e. still a (started_inside s lanes h (rule_fair s lanes h r) a e.0) e) f.0 f.1 (λ b. still f.0 f.1 (b, f.2))))
      (λ f. inl (λ a l. ⊎_elim (λ e. e) (λ n. absurd (f a l n)) (ended_or (events h) a)))
      (find (λ a. Ended (events h) a → ⊥) (not_decided (ended_or (events h))) (length s.actions)))
      (find (Runs (events h)) (runs_or (events h)) (length s.actions))
    where
      opens : ((a : ℕ) → Runs (events h) a → ⊥) → (x : ℕ) → x < length s.actions → (Started (events h) x → ⊥) → (b : Block) × AreByRule s lanes (b ∷ h) × (measure (b ∷ h) < measure h)
      opens still x l n =
          let o = can_open h r still x l n in
          let rule : AreByRule s lanes (Starts o.0 o.1 ∷ h) = (r, (o.2, o.3)) in
          let a = starts_fewer s lanes h o.0 o.1 (rule_fair s lanes (Starts o.0 o.1 ∷ h) rule) in
          let b = fewer_unended s (Starts o.0 o.1) h in
          let some = o.2.group.some in
          (Starts o.0 o.1, rule, omega (arith, a, b, some))

  completes : (fuel : ℕ) (h : List Block) → AreByRule s lanes h → measure h ≤ fuel → (more : List Block) × AreByRule s lanes (more ++ h) × IsWhole s (events (more ++ h))
  completes zero h r l = ⊎_elim (λ w. ([], r, w)) (λ g. absurd (omega (arith, l, g.2))) (goes_on h r)
  completes (suc fuel) h r l =
      ⊎_elim (λ w. ([], r, w))
      (λ g. let c = completes fuel (g.0 ∷ h) g.1 (omega (arith, l, g.2)) in
      let e : (c.0 ++ g.0 ∷ []) ++ h ≡ c.0 ++ g.0 ∷ h = append_assoc c.0 (g.0 ∷ []) h in
      (c.0 ++ g.0 ∷ [], subst (λ t. AreByRule s lanes t) (sym e) c.1, subst (λ t. IsWhole s (events t)) (sym e) c.2))
      (goes_on h r)

  -- What the rule has begun is a prefix of a whole legal trace.
  pub rule_prefix : (h : List Block) → AreByRule s lanes h → Prefix s lanes (events h)
  rule_prefix h r =
      let c = completes (measure h) h r (omega arith) in
      record { blocks = h; more = c.0; are = refl; legal = rule_legal s sound lanes (c.0 ++ h) c.1; whole = c.2 }
