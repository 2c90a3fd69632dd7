-- What it means that a block breaks the rule of a number.
use Rattle.std.proofs.Common.{◌≡◌, ◌≢◌, ◌≤◌, ◌<◌, ◌+◌, ◌⊎◌, ◌↔◌, ℕ, List, Bool, true, false, length, get_or, map, refl, sym, ◌∙◌, subst, inl, inr, ⊎_elim, arith}
use Rattle.std.specs.Prelude.{Contains, nat_eq}
use Rattle.std.proofs.lemmas.Bool.{cases_lt, cases_eq}
use Rattle.std.proofs.lemmas.Option.{slice_get_within}
use Rattle.pst_scen.specs.declared.scenario.Scenario.{Scenario}
use Rattle.pst_scen.specs.declared.event.Event.{Event}
use Rattle.pst_scen.specs.declared.act.Flow.{Flow}
use Rattle.pst_scen.specs.declared.act.Flow.TheVariants.{StateIn, StateOut}
use Rattle.pst_scen.specs.declared.act.Link.{Link}
use Rattle.pst_scen.specs.Flows.{Refers, Feeds, Reads, Writes}
use Rattle.pst_scen.specs.Order.{Before, Sequence, Itself, Directly}
use Rattle.pst_scen.specs.Conflicts.{Conflict, Clash, Resource, FirstWrites, SecondWrites}
use Rattle.pst_scen.specs.Trace.{Started, Ended, Runs, IsHeld, IsWholeGroup, Names, last_writer, Block, Starts, Ends}
use Rattle.pst_scen.specs.Judging.{Breaks, BreaksLeast, NoGroup, StartsAgain, LaneIsBusy, LaneIsNamedTwice, StatementIsOpen, ProducerIsOpen, SourceIsAnother, PreviousIsAnother, ConflictsRunning, ConflictsInside, EndsNothing, ReaderIsOpen}
use Rattle.pst_scen.specs.Rows.{Has}
use Rattle.pst_scen.specs.Plan.{Entries}
use Rattle.pst_scen.specs.Plans.{AreEntriesOf, IsPlanOf}
use Rattle.pst_scen.specs.Laws.{IsPreorder, HasOneLeafEach, BeforeIsNeverItself}
use Rattle.pst_order.specs.Laws.{MustIsInside}
use Rattle.pst_by_rule.specs.Blocks.{act_of, lane_of, starts_in}
use Rattle.pst_check.specs.Tests.{AtSome, NamesTwice, AreInside, HasStatementOpen, HasProducerOpen, HasOtherWriter, HasInTheWay, HasReference, HasReaderOpen}
use Rattle.pst_check.specs.Verdicts.{IsFreeBelow, IsUnbroken}
use Rattle.pst_check.proofs.Places.{mapped, unmapped, mapped_at, at_mapped}

record Again (t : List Event) (ms : List ℕ) : Type 0 where
  act : ℕ
  has : Contains ms act
  started : Started t act

data Taken (t : List Event) (us : List ℕ) : Type 0 where
  Busy : (lane : ℕ) → Contains us lane → IsHeld t lane → Taken t us
  Twice : (i j : ℕ) → i < j → j < length us → get_or us i 0 ≡ get_or us j 0 → Taken t us

record Statement (s : Scenario) (t : List Event) (ms : List ℕ) : Type 0 where
  act : ℕ
  member : ℕ
  has : Contains ms member
  before : Before s act member
  not_ended : Ended t act → ⊥

record Producer (s : Scenario) (t : List Event) (ms : List ℕ) : Type 0 where
  act : ℕ
  member : ℕ
  has : Contains ms member
  feeds : Feeds s act member
  not_ended : Ended t act → ⊥

record Writer (s : Scenario) (t : List Event) (ms : List ℕ) : Type 0 where
  member : ℕ
  pool : ℕ
  to : Link
  has : Contains ms member
  uses : Reads s member pool to ⊎ Writes s member pool to
  other : Names to (last_writer s pool t) → ⊥

data Dispute (s : Scenario) (t : List Event) (ms : List ℕ) : Type 0 where
  Running : (a b : ℕ) → Runs t a → Contains ms b → Conflict s a b → Dispute s t ms
  Inside : (a b : ℕ) → Contains ms a → Contains ms b → Conflict s a b → Dispute s t ms

record Reader (s : Scenario) (t : List Event) (ms : List ℕ) : Type 0 where
  act : ℕ
  member : ℕ
  pool : ℕ
  to : Link
  has : Contains ms member
  writes : Writes s member pool to
  reads : Reads s act pool to
  different : act ≢ member
  not_ended : Ended t act → ⊥

abbrev choose : Bool → Type 0 → Type 0 → Type 0
choose true A B = A
choose false A B = B

abbrev Means : Scenario → List Event → Block → ℕ → Type 0
Means s t (Ends a) rule = choose (nat_eq rule 9) (Runs t a → ⊥) ⊥
Means s t (Starts ms us) rule =
    choose (nat_eq rule 2) (IsWholeGroup s ms → ⊥)
    (choose (nat_eq rule 3) (Again t ms)
    (choose (nat_eq rule 4) (Taken t us)
    (choose (nat_eq rule 5) (Statement s t ms)
    (choose (nat_eq rule 6) (Producer s t ms)
    (choose (nat_eq rule 7) (Writer s t ms)
    (choose (nat_eq rule 8) (Dispute s t ms)
    (choose (nat_eq rule 11) (Reader s t ms) ⊥)))))))

means : (s : Scenario) (t : List Event) (rule : ℕ) (block : Block) → Breaks s t rule block → Means s t block rule
means s t _ _ (NoGroup ms us n) = n
means s t _ _ (StartsAgain ms us a m k) = record { act = a; has = m; started = k }
means s t _ _ (LaneIsBusy ms us l h k) = Busy l h k
means s t _ _ (LaneIsNamedTwice ms us i j l m e) = Twice i j l m e
means s t _ _ (StatementIsOpen ms us a b m d k) = record { act = a; member = b; has = m; before = d; not_ended = k }
means s t _ _ (ProducerIsOpen ms us a b m d k) = record { act = a; member = b; has = m; feeds = d; not_ended = k }
means s t _ _ (SourceIsAnother ms us b pool to m r k) = record { member = b; pool = pool; to = to; has = m; uses = inl r; other = k }
means s t _ _ (PreviousIsAnother ms us b pool to m w k) = record { member = b; pool = pool; to = to; has = m; uses = inr w; other = k }
means s t _ _ (ConflictsRunning ms us a b r m c) = Running a b r m c
means s t _ _ (ConflictsInside ms us a b m n c) = Inside a b m n c
means s t _ _ (EndsNothing a k) = k
means s t _ _ (ReaderIsOpen ms us a b pool to m w r n k) = record { act = a; member = b; pool = pool; to = to; has = m; writes = w; reads = r; different = n; not_ended = k }

ranged : (s : Scenario) (t : List Event) (rule : ℕ) (block : Block) → Breaks s t rule block → (2 ≤ rule) × (rule ≤ 11)
ranged s t _ _ (NoGroup ms us n) = (omega arith, omega arith)
ranged s t _ _ (StartsAgain ms us a m k) = (omega arith, omega arith)
ranged s t _ _ (LaneIsBusy ms us l h k) = (omega arith, omega arith)
ranged s t _ _ (LaneIsNamedTwice ms us i j l m e) = (omega arith, omega arith)
ranged s t _ _ (StatementIsOpen ms us a b m d k) = (omega arith, omega arith)
ranged s t _ _ (ProducerIsOpen ms us a b m d k) = (omega arith, omega arith)
ranged s t _ _ (SourceIsAnother ms us b pool to m r k) = (omega arith, omega arith)
ranged s t _ _ (PreviousIsAnother ms us b pool to m w k) = (omega arith, omega arith)
ranged s t _ _ (ConflictsRunning ms us a b r m c) = (omega arith, omega arith)
ranged s t _ _ (ConflictsInside ms us a b m n c) = (omega arith, omega arith)
ranged s t _ _ (EndsNothing a k) = (omega arith, omega arith)
ranged s t _ _ (ReaderIsOpen ms us a b pool to m w r n k) = (omega arith, omega arith)

-- ONE RULE AFTER ANOTHER

module _ (s : Scenario) (t : List Event) (block : Block) where
  pub free_two : IsFreeBelow s t block 2
  free_two rule l k = let r = ranged s t rule block k in let low : 2 ≤ rule = r.0 in omega (arith, l, low)

  pub free_more : (number next : ℕ) → next ≡ number + 1 → IsFreeBelow s t block number → (Breaks s t number block → ⊥) → IsFreeBelow s t block next
  free_more number next is free not rule l k =
      ⊎_elim
      (λ e. not (subst (λ r. Breaks s t r block) e k))
      (λ n. free rule (omega (arith, n, l, is)) k)
      (cases_eq rule number)

  pub free_all : IsFreeBelow s t block 12 → IsUnbroken s t block
  free_all free rule k = let r = ranged s t rule block k in let high : rule ≤ 11 = r.1 in free rule (omega (arith, high)) k

  pub least : (rule : ℕ) → IsFreeBelow s t block rule → Breaks s t rule block → BreaksLeast s t rule block
  least rule free k = record {
    breaks = k;
    least = λ other b. ⊎_elim (λ l. absurd (free other l b)) (λ l. l) (cases_lt other rule);
  }

pub starts_not_nine : (s : Scenario) (t : List Event) (part : List Event) → Breaks s t 9 (starts_in part) → ⊥
starts_not_nine s t part k = means s t 9 (starts_in part) k

pub starts_not_ten : (s : Scenario) (t : List Event) (part : List Event) → Breaks s t 10 (starts_in part) → ⊥
starts_not_ten s t part k = means s t 10 (starts_in part) k

pub ends_nine : (s : Scenario) (t : List Event) (a : ℕ) → (Runs t a → ⊥) → BreaksLeast s t 9 (Ends a)
ends_nine s t a k = record { breaks = EndsNothing a k; least = λ other b. nine other b }
  where
    at : (rule : ℕ) → Means s t (Ends a) rule → rule ≡ 9
    at rule h = ⊎_elim (λ e. e) (λ n. absurd (subst (λ v. choose v (Runs t a → ⊥) ⊥) (not_nine rule n) h)) (cases_eq rule 9)
      where
        not_nine : (rule : ℕ) → rule ≢ 9 → nat_eq rule 9 ≡ false
        not_nine rule n = grind arith

    nine : (other : ℕ) → Breaks s t other (Ends a) → 9 ≤ other
    nine other b = let e = at other (means s t other (Ends a) b) in omega (arith, e)

pub ends_free : (s : Scenario) (t : List Event) (a : ℕ) → Runs t a → IsUnbroken s t (Ends a)
ends_free s t a r rule b = let h = means s t rule (Ends a) b in only rule h
  where
    only : (rule : ℕ) → Means s t (Ends a) rule → ⊥
    only rule h = over (nat_eq rule 9) h
      where
        over : (v : Bool) → choose v (Runs t a → ⊥) ⊥ → ⊥
        over true h = h r
        over false h = h

-- THE TESTS

module _ (s : Scenario) (t : List Event) (part : List Event) where
  pub again : AtSome part (λ e. Started t (act_of e)) ↔ Breaks s t 3 (starts_in part)
  again = (
    λ h. let m = mapped act_of (λ a. Started t a) part h in StartsAgain (map act_of part) (map lane_of part) m.0 m.1 m.2,
    λ k. let w = means s t 3 (starts_in part) k in unmapped act_of (λ a. Started t a) part w.act w.has w.started,
  )

  pub taken : (AtSome part (λ e. IsHeld t (lane_of e)) ⊎ NamesTwice part) ↔ Breaks s t 4 (starts_in part)
  taken = (there, λ k. back (means s t 4 (starts_in part) k))
    where
      there : AtSome part (λ e. IsHeld t (lane_of e)) ⊎ NamesTwice part → Breaks s t 4 (starts_in part)
      there (inl h) = let m = mapped lane_of (λ l. IsHeld t l) part h in LaneIsBusy (map act_of part) (map lane_of part) m.0 m.1 m.2
      there (inr h) =
          let b = h.before in
          let one = mapped_at lane_of part b.first b.event b.is in
          let other = mapped_at lane_of part h.second h.event h.is in
          LaneIsNamedTwice (map act_of part) (map lane_of part) b.first h.second b.order other.0 (one.1 ∙ b.same ∙ sym other.1)

      back : Taken t (map lane_of part) → AtSome part (λ e. IsHeld t (lane_of e)) ⊎ NamesTwice part
      back (Busy l h k) = inl (unmapped lane_of (λ l. IsHeld t l) part l h k)
      back (Twice i j l m e) =
          let one = at_mapped lane_of part i (omega (arith, l, m)) in
          let other = at_mapped lane_of part j m in
          let one_is = mapped_at lane_of part i one.0 one.1 in
          let other_is = mapped_at lane_of part j other.0 other.1 in
          inr (record {
            second = j;
            event = other.0;
            is = other.1;
            before = record { first = i; event = one.0; order = l; is = one.1; same = sym one_is.1 ∙ e ∙ other_is.1 };
          })

  pub statement : ((a b : ℕ) → Contains (map act_of part) b → Before s a b → a < length s.actions) → AtSome part (λ e. HasStatementOpen s t (act_of e)) ↔ Breaks s t 5 (starts_in part)
  statement inside = (
    λ h. let m = mapped act_of (HasStatementOpen s t) part h in StatementIsOpen (map act_of part) (map lane_of part) m.2.act m.0 m.1 m.2.is.before m.2.is.not_ended,
    λ k. let w = means s t 5 (starts_in part) k in
        unmapped act_of (HasStatementOpen s t) part w.member w.has (record { act = w.act; below = inside w.act w.member w.has w.before; is = record { before = w.before; not_ended = w.not_ended } }),
  )

  feeds_of : (b : ℕ) (h : HasReference s b (HasProducerOpen t)) → Feeds s h.some.has.act b
  feeds_of b h =
      let f = h.some.element in
      record { pool = f.pool; output = h.some.has.reference; input = record { act = h.act; reference = h.some.place; filled = f; is_act = h.is_act; is = h.some.is; of_flow = h.some.has.of_flow; of_pool = refl; linked = h.some.has.linked } }

  pub producer : AtSome part (λ e. HasReference s (act_of e) (HasProducerOpen t)) ↔ Breaks s t 6 (starts_in part)
  producer = (
    λ h. let m = mapped act_of (λ b. HasReference s b (HasProducerOpen t)) part h in
        ProducerIsOpen (map act_of part) (map lane_of part) m.2.some.has.act m.0 m.1 (feeds_of m.0 m.2) m.2.some.has.not_ended,
    λ k. let w = means s t 6 (starts_in part) k in
        let r = w.feeds.input in
        unmapped act_of (λ b. HasReference s b (HasProducerOpen t)) part w.member w.has (record {
          act = r.act;
          is_act = r.is_act;
          some = record { place = r.reference; element = r.filled; is = r.is; has = record { act = w.act; reference = w.feeds.output; of_flow = r.of_flow; linked = r.linked; not_ended = w.not_ended } };
        }),
  )

  -- the actions are there where the group is whole
  pub inside_of : (p : Entries) → AreEntriesOf s p → (Breaks s t 2 (starts_in part) → ⊥) → AreInside (length p.groups) part
  inside_of p are not place event is =
      let m = are.many in
      ⊎_elim
      (λ l. omega (arith, l, m))
      (λ g. absurd (not (NoGroup (map act_of part) (map lane_of part) (λ w. let c = mapped act_of (λ a. a ≡ act_of event) part (record { place = place; element = event; is = is; has = refl }) in let l = w.inside c.0 c.1 in let e = c.2 in absurd (omega (arith, l, e, g))))))
      (cases_lt (act_of event) (length s.actions))

  refers_of : (b : ℕ) (flow : Flow) (h : HasReference s b (HasOtherWriter s t)) → h.some.element.flow ≡ flow → Refers s b flow h.some.element.pool h.some.element.link
  refers_of b flow h e = record { act = h.act; reference = h.some.place; filled = h.some.element; is_act = h.is_act; is = h.some.is; of_flow = e; of_pool = refl; linked = refl }

  pub writer : AtSome part (λ e. HasReference s (act_of e) (HasOtherWriter s t)) ↔ Breaks s t 7 (starts_in part)
  writer = (
    λ h. let m = mapped act_of (λ b. HasReference s b (HasOtherWriter s t)) part h in
        let f = m.2.some.element in
        ⊎_elim
        (λ e. SourceIsAnother (map act_of part) (map lane_of part) m.0 f.pool f.link m.1 (refers_of m.0 StateIn m.2 e) m.2.some.has.other)
        (λ e. PreviousIsAnother (map act_of part) (map lane_of part) m.0 f.pool f.link m.1 (refers_of m.0 StateOut m.2 e) m.2.some.has.other)
        m.2.some.has.of_flow,
    λ k. let w = means s t 7 (starts_in part) k in
        unmapped act_of (λ b. HasReference s b (HasOtherWriter s t)) part w.member w.has
        (⊎_elim (λ r. other_of w.member w.pool w.to StateIn (λ f e. inl e) r w.other) (λ r. other_of w.member w.pool w.to StateOut (λ f e. inr e) r w.other) w.uses),
  )
    where
      other_of : (b pool : ℕ) (to : Link) (flow : Flow) → ((f : Flow) → f ≡ flow → (f ≡ StateIn) ⊎ (f ≡ StateOut)) → Refers s b flow pool to → (Names to (last_writer s pool t) → ⊥) → HasReference s b (HasOtherWriter s t)
      other_of b pool to flow kind r n = record {
        act = r.act;
        is_act = r.is_act;
        some = record {
          place = r.reference;
          element = r.filled;
          is = r.is;
          has = record {
            of_flow = kind r.filled.flow r.of_flow;
            other = λ h. n (subst (λ q. Names to (last_writer s q t)) r.of_pool (subst (λ l. Names l (last_writer s r.filled.pool t)) r.linked h));
          };
        };
      }

  refers_inside : (a : ℕ) (flow : Flow) (pool : ℕ) (to : Link) → Refers s a flow pool to → a < length s.actions
  refers_inside a flow pool to r = slice_get_within s.actions a r.act r.is_act

  conflict_inside : (a b : ℕ) → Conflict s a b → a < length s.actions
  conflict_inside a b c = go c.1
    where
      go : Clash s a b → a < length s.actions
      go (Resource pool instance own other x y lock) = slice_get_within s.actions a x.is.act x.is.is_act
      go (FirstWrites pool to w u) = refers_inside a StateOut pool to w
      go (SecondWrites pool to u w) = ⊎_elim (λ r. refers_inside a StateIn pool u.0 r) (λ r. refers_inside a StateOut pool u.0 r) u.1

  pub member_inside : (count : ℕ) → AreInside count part → (b : ℕ) → Contains (map act_of part) b → b < count
  member_inside count inside b h =
      let r = unmapped act_of (λ a. a ≡ b) part b h refl in
      let l = inside r.place r.element r.is in
      omega (arith, l, r.has)

  pub dispute : (p : Entries) → AreEntriesOf s p → AreInside (length p.groups) part
      → (AtSome part (λ e. HasInTheWay p t (act_of e)) ⊎ AtSome part (λ e. AtSome part (λ o. Has p.conflict (act_of e) (act_of o)))) ↔ Breaks s t 8 (starts_in part)
  dispute p are inside = (there, λ k. back (means s t 8 (starts_in part) k))
    where
      there : AtSome part (λ e. HasInTheWay p t (act_of e)) ⊎ AtSome part (λ e. AtSome part (λ o. Has p.conflict (act_of e) (act_of o))) → Breaks s t 8 (starts_in part)
      there (inl h) =
          let many = are.many in
          let m = mapped act_of (HasInTheWay p t) part h in
          let l = m.2.below in
          let k = member_inside (length p.groups) inside m.0 m.1 in
          ConflictsRunning (map act_of part) (map lane_of part) m.2.act m.0 m.2.is.runs m.1 ((are.conflict m.2.act m.0 (omega (arith, l, many)) (omega (arith, k, many))).0 m.2.is.conflict)
      there (inr h) =
          let many = are.many in
          let m = mapped act_of (λ a. AtSome part (λ o. Has p.conflict a (act_of o))) part h in
          let n = mapped act_of (λ b. Has p.conflict m.0 b) part m.2 in
          let k = member_inside (length p.groups) inside m.0 m.1 in
          let l = member_inside (length p.groups) inside n.0 n.1 in
          ConflictsInside (map act_of part) (map lane_of part) m.0 n.0 m.1 n.1 ((are.conflict m.0 n.0 (omega (arith, k, many)) (omega (arith, l, many))).0 n.2)

      back : Dispute s t (map act_of part) → AtSome part (λ e. HasInTheWay p t (act_of e)) ⊎ AtSome part (λ e. AtSome part (λ o. Has p.conflict (act_of e) (act_of o)))
      back (Running a b r m c) =
          let many = are.many in
          let l = conflict_inside a b c in
          let k = member_inside (length p.groups) inside b m in
          inl (unmapped act_of (HasInTheWay p t) part b m (record { act = a; below = omega (arith, l, many); is = record { conflict = (are.conflict a b l (omega (arith, k, many))).1 c; runs = r } }))
      back (Inside a b m n c) =
          let many = are.many in
          let k = member_inside (length p.groups) inside a m in
          let l = member_inside (length p.groups) inside b n in
          inr (unmapped act_of (λ x. AtSome part (λ o. Has p.conflict x (act_of o))) part a m
          (unmapped act_of (λ x. Has p.conflict a x) part b n ((are.conflict a b (omega (arith, k, many)) (omega (arith, l, many))).1 c)))

  pub reader : AtSome part (λ e. HasReference s (act_of e) (HasReaderOpen s t (act_of e))) ↔ Breaks s t 11 (starts_in part)
  reader = (
    λ h. let m = mapped act_of (λ b. HasReference s b (HasReaderOpen s t b)) part h in
        let w = m.2.some in
        let q = w.has.is in
        let r = q.reads.some in
        ReaderIsOpen (map act_of part) (map lane_of part) w.has.act m.0 w.element.pool w.element.link m.1
        (record { act = m.2.act; reference = w.place; filled = w.element; is_act = m.2.is_act; is = w.is; of_flow = w.has.of_flow; of_pool = refl; linked = refl })
        (record { act = q.reads.act; reference = r.place; filled = r.element; is_act = q.reads.is_act; is = r.is; of_flow = r.has.of_flow; of_pool = r.has.of_pool; linked = r.has.linked })
        q.different q.not_ended,
    λ k. let v = means s t 11 (starts_in part) k in
        let w = v.writes in
        let r = v.reads in
        unmapped act_of (λ b. HasReference s b (HasReaderOpen s t b)) part v.member v.has (record {
          act = w.act;
          is_act = w.is_act;
          some = record {
            place = w.reference;
            element = w.filled;
            is = w.is;
            has = record {
              of_flow = w.of_flow;
              act = v.act;
              below = refers_inside v.act StateIn v.pool v.to r;
              is = record {
                different = v.different;
                reads = record {
                  act = r.act;
                  is_act = r.is_act;
                  some = record { place = r.reference; element = r.filled; is = r.is; has = record { of_flow = r.of_flow; of_pool = r.of_pool ∙ sym w.of_pool; linked = r.linked ∙ sym w.linked } };
                };
                not_ended = v.not_ended;
              };
            };
          };
        }),
  )

pub group_means : (s : Scenario) (t : List Event) (part : List Event) → Breaks s t 2 (starts_in part) → IsWholeGroup s (map act_of part) → ⊥
group_means s t part k = means s t 2 (starts_in part) k

-- an action of an earlier statement than one of the block is there
pub before_inside : (s : Scenario) (t : List Event) (part : List Event) (p : Entries) → IsPlanOf s p → IsPreorder s.nodes → HasOneLeafEach s.nodes → AreInside (length p.groups) part → BeforeIsNeverItself → MustIsInside
    → (a b : ℕ) → Contains (map act_of part) b → Before s a b → a < length s.actions
before_inside s t part p plan preorder leaves inside never must_inside a b has before =
    let k = member_inside s t part (length p.groups) inside b has in
    let m = plan.entries.many in
    must_inside s a b plan.runs (omega (arith, k, m))
    (Directly a b b (λ e. never s b preorder leaves (subst (λ v. Before s v b) e before), Sequence before) Itself)

pub before_must : (s : Scenario) (p : Entries) → IsPlanOf s p → IsPreorder s.nodes → HasOneLeafEach s.nodes → BeforeIsNeverItself
    → (a b : ℕ) → a < length p.groups → b < length p.groups → Before s a b → Has p.must a b
before_must s p plan preorder leaves never a b la lb before =
    let m = plan.entries.many in
    (plan.entries.must a b (omega (arith, la, m)) (omega (arith, lb, m))).1
    (Directly a b b (λ e. never s b preorder leaves (subst (λ v. Before s v b) e before), Sequence before) Itself)
