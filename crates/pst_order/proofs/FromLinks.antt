-- Without a cycle the outputs to a pool form one chain.
use Rattle.std.proofs.Common.{◌≡◌, ◌⊎◌, ℕ, zero, suc, ◌+◌, ◌<◌, ◌≤◌, List, [], ◌∷◌, ◌++◌, length, get_or, Option, Some, None, refl, sym, ap, ap₂, ◌∙◌, subst, inl, inr, ⊎_elim, arith, length-append}
use Rattle.std.specs.Prelude.{slice_get}
use Rattle.std.proofs.lemmas.Bool.{cases_lt, cases_eq}
use Rattle.std.proofs.lemmas.Option.{slice_get_within}
use Rattle.pst_scen.specs.declared.act.Act.{Act}
use Rattle.pst_scen.specs.declared.act.Filled.{Filled}
use Rattle.pst_scen.specs.declared.act.Flow.{Flow}
use Rattle.pst_scen.specs.declared.act.Flow.TheVariants.{BufferIn, BufferOut, StreamIn, StreamOut, StateIn, StateOut}
use Rattle.pst_scen.specs.declared.act.Link.{Link}
use Rattle.pst_scen.specs.declared.act.Link.TheVariants as link
use Rattle.pst_scen.specs.declared.scenario.Scenario.{Scenario}
use Rattle.pst_scen.specs.Flows.{Writes}
use Rattle.pst_scen.specs.Order.{Itself, Must, Directly, Through, Previous}
use Rattle.pst_scen.specs.Trace.{Names}
use Rattle.pst_scen.specs.Plan.{Entries}
use Rattle.pst_scen.specs.Plans.{AreEntriesOf}
use Rattle.pst_order.specs.Facts.{IsOutput, IsLinked}
use Rattle.pst_order.proofs.Elements.{place_of}
use Rattle.pst_order.proofs.Counts.{Decided, find, least, numbers, length-numbers, in_numbers}
use Rattle.pst_order.proofs.Lists.{at_push, at_end, Distinct, no_longer}
use Rattle.pst_order.proofs.FromWhole.{Chain, previous}
use Rattle.pst_order.proofs.Sound.{IsAcyclic}
use Rattle.pst_order.proofs.Members.{Ordered, ordered_or}

flow_or : (flow : Flow) → (flow ≡ StateOut) ⊎ (flow ≡ StateOut → ⊥)
flow_or StateOut = inl refl
flow_or StateIn = inr (λ e. cc)
flow_or BufferIn = inr (λ e. cc)
flow_or BufferOut = inr (λ e. cc)
flow_or StreamIn = inr (λ e. cc)
flow_or StreamOut = inr (λ e. cc)

link_or : (x y : Link) → (x ≡ y) ⊎ (x ≡ y → ⊥)
link_or link.Nothing link.Nothing = inl refl
link_or link.Nothing link.Initial = inr (λ e. cc)
link_or link.Nothing (link.Act a r) = inr (λ e. cc)
link_or link.Initial link.Nothing = inr (λ e. cc)
link_or link.Initial link.Initial = inl refl
link_or link.Initial (link.Act a r) = inr (λ e. cc)
link_or (link.Act a r) link.Nothing = inr (λ e. cc)
link_or (link.Act a r) link.Initial = inr (λ e. cc)
link_or (link.Act a r) (link.Act b q) =
    ⊎_elim (λ e. ⊎_elim (λ f. inl (ap₂ link.Act e f)) (λ n. inr (λ k. n (second k))) (cases_eq r q)) (λ n. inr (λ k. n (first k))) (cases_eq a b)
  where
    first : link.Act a r ≡ link.Act b q → a ≡ b
    first e = cc

    second : link.Act a r ≡ link.Act b q → r ≡ q
    second e = cc

module _ (s : Scenario) (pool : ℕ) where
  -- an output, whatever its previous writer
  abbrev pub Output : ℕ → ℕ → Type 0
  Output a r = (to : Link) × IsOutput s a r pool to

  one_act : (a : ℕ) (x y : Act) → slice_get s.actions a ≡ Some x → slice_get s.actions a ≡ Some y → x ≡ y
  one_act a x y e f = let both : Some x ≡ Some y = sym e ∙ f in cc

  one_filled : (act : Act) (r : ℕ) (x y : Filled) → slice_get act.references r ≡ Some x → slice_get act.references r ≡ Some y → x ≡ y
  one_filled act r x y e f = let both : Some x ≡ Some y = sym e ∙ f in cc

  -- an output has one previous writer
  pub one_previous : (a r : ℕ) (x y : Link) → IsOutput s a r pool x → IsOutput s a r pool y → x ≡ y
  one_previous a r x y o q =
      let e = one_act a o.act q.act o.is_act q.is_act in
      let f = one_filled q.act r o.filled q.filled (subst (λ (v : Act). slice_get v.references r ≡ Some o.filled) e o.is) q.is in
      sym o.linked ∙ ap (λ (v : Filled). v.link) f ∙ q.linked

  output_at : (a r : ℕ) (act : Act) → slice_get s.actions a ≡ Some act → Output a r ⊎ (Output a r → ⊥)
  output_at a r act is = by_filled (slice_get act.references r) refl
    where
      by_filled : (f : Option Filled) → slice_get act.references r ≡ f → Output a r ⊎ (Output a r → ⊥)
      by_filled None e = inr (λ o. let both : Some o.1.filled ≡ None = sym (subst (λ (v : Act). slice_get v.references r ≡ Some o.1.filled) (one_act a o.1.act act o.1.is_act is) o.1.is) ∙ e in cc)
      by_filled (Some filled) e =
          ⊎_elim
          (λ k. ⊎_elim
          (λ m. inl (filled.link, record { act = act; filled = filled; is_act = is; is = e; of_flow = k; of_pool = m; linked = refl }))
          (λ n. inr (λ o. n (subst (λ (v : Filled). v.pool ≡ pool) (same_filled o) o.1.of_pool))) (cases_eq filled.pool pool))
          (λ n. inr (λ o. n (subst (λ (v : Filled). v.flow ≡ StateOut) (same_filled o) o.1.of_flow))) (flow_or filled.flow)
        where
          same_filled : (o : Output a r) → o.1.filled ≡ filled
          same_filled o =
              one_filled act r o.1.filled filled (subst (λ (v : Act). slice_get v.references r ≡ Some o.1.filled) (one_act a o.1.act act o.1.is_act is) o.1.is) e

  -- some output of an action that passes a test, or none
  find_output : (a : ℕ) (P : ℕ → Type 0) → Decided P → ((r : ℕ) × Output a r × P r) ⊎ ((r : ℕ) → Output a r → P r → ⊥)
  find_output a P d = by_act (slice_get s.actions a) refl
    where
      by_act : (o : Option Act) → slice_get s.actions a ≡ o → ((r : ℕ) × Output a r × P r) ⊎ ((r : ℕ) → Output a r → P r → ⊥)
      by_act None e = inr (λ r o p. let both : Some o.1.act ≡ None = sym o.1.is_act ∙ e in cc)
      by_act (Some act) e =
          ⊎_elim (λ f. inl (f.0, f.2.0, f.2.1))
          (λ n. inr (λ r o p. n r (slice_get_within act.references r o.1.filled (subst (λ (v : Act). slice_get v.references r ≡ Some o.1.filled) (one_act a o.1.act act o.1.is_act e) o.1.is)) (o, p)))
          (find (λ r. Output a r × P r) (λ r. ⊎_elim (λ o. ⊎_elim (λ p. inl (o, p)) (λ n. inr (λ q. n q.1)) (d r)) (λ n. inr (λ q. n q.0)) (output_at a r act e)) (length act.references))

  -- some output with that previous writer, or none
  find_next : (to : Link) → ((a : ℕ) × (r : ℕ) × IsOutput s a r pool to) ⊎ ((a r : ℕ) → IsOutput s a r pool to → ⊥)
  find_next to =
      ⊎_elim (λ f. inl (f.0, f.2.0, f.2.1))
      (λ n. inr (λ a r o. n a (slice_get_within s.actions a o.act o.is_act) (r, o)))
      (find (λ a. (r : ℕ) × IsOutput s a r pool to) by_act (length s.actions))
    where
      linked_or : (a r : ℕ) → IsOutput s a r pool to ⊎ (IsOutput s a r pool to → ⊥)
      linked_or a r =
          ⊎_elim (λ f. inl f) (λ n. inr n) (by_output (find_output a (λ q. q ≡ r) (λ q. cases_eq q r)))
        where
          by_output : ((q : ℕ) × Output a q × (q ≡ r)) ⊎ ((q : ℕ) → Output a q → q ≡ r → ⊥) → IsOutput s a r pool to ⊎ (IsOutput s a r pool to → ⊥)
          by_output (inr n) = inr (λ o. n r (to, o) refl)
          by_output (inl f) =
              let o : IsOutput s a r pool f.1.0 = subst (λ v. IsOutput s a v pool f.1.0) f.2 f.1.1 in
              ⊎_elim (λ e. inl (subst (λ v. IsOutput s a r pool v) e o)) (λ n. inr (λ q. n (one_previous a r f.1.0 to o q))) (link_or f.1.0 to)

      by_act : Decided (λ a. (r : ℕ) × IsOutput s a r pool to)
      by_act a =
          ⊎_elim (λ f. ⊎_elim (λ o. inl (f.0, o)) (λ n. absurd (n f.2)) (linked_or a f.0))
          (λ n. inr (λ q. n q.0 (to, q.1) q.1)) (find_output a (λ r. IsOutput s a r pool to) (linked_or a))

  -- A CHAIN THAT GROWS

  -- the link to the output before the i-th
  abbrev before : List ℕ → List ℕ → ℕ → Link
  before ws rs zero = link.Initial
  before ws rs (suc i) = link.Act (get_or ws i 0) (get_or rs i 0)

  record Growing (ws rs : List ℕ) : Type 0 where
    same : length rs ≡ length ws
    each : (i : ℕ) → i < length ws → IsOutput s (get_or ws i 0) (get_or rs i 0) pool (before ws rs i)

  before_push : (ws rs : List ℕ) (a r i : ℕ) → length rs ≡ length ws → i ≤ length ws → before (ws ++ a ∷ []) (rs ++ r ∷ []) i ≡ before ws rs i
  before_push ws rs a r zero e l = refl
  before_push ws rs a r (suc i) e l = ap₂ link.Act (at_push ws a i (omega (arith, l))) (at_push rs r i (omega (arith, l, e)))

  push : (ws rs : List ℕ) (a r : ℕ) → Growing ws rs → IsOutput s a r pool (before ws rs (length ws)) → Growing (ws ++ a ∷ []) (rs ++ r ∷ [])
  push ws rs a r g o =
      let n : length (ws ++ a ∷ []) ≡ length ws + 1 = length-append ws (a ∷ []) in
      let m : length (rs ++ r ∷ []) ≡ length rs + 1 = length-append rs (r ∷ []) in
      let end : get_or (rs ++ r ∷ []) (length ws) 0 ≡ r = ap (λ i. get_or (rs ++ r ∷ []) i 0) (sym g.same) ∙ at_end rs r in
      record {
        same = omega (arith, n, m, g.same);
        each = λ i l. ⊎_elim
            (λ q. subst (λ t. IsOutput s (get_or (ws ++ a ∷ []) i 0) (get_or (rs ++ r ∷ []) i 0) pool t) (sym (before_push ws rs a r i g.same (omega (arith, q))))
            (subst (λ x. IsOutput s x (get_or (rs ++ r ∷ []) i 0) pool (before ws rs i)) (sym (at_push ws a i q))
            (subst (λ y. IsOutput s (get_or ws i 0) y pool (before ws rs i)) (sym (at_push rs r i (omega (arith, q, g.same)))) (g.each i q))))
            (λ q. let e : length ws ≡ i = omega (arith, q, l, n) in
            subst (λ j. IsOutput s (get_or (ws ++ a ∷ []) j 0) (get_or (rs ++ r ∷ []) j 0) pool (before (ws ++ a ∷ []) (rs ++ r ∷ []) j)) e
            (subst (λ t. IsOutput s (get_or (ws ++ a ∷ []) (length ws) 0) (get_or (rs ++ r ∷ []) (length ws) 0) pool t) (sym (before_push ws rs a r (length ws) g.same (omega arith)))
            (subst (λ x. IsOutput s x (get_or (rs ++ r ∷ []) (length ws) 0) pool (before ws rs (length ws))) (sym (at_end ws a))
            (subst (λ y. IsOutput s a y pool (before ws rs (length ws))) (sym end) o))))
            (cases_lt i (length ws));
      }

  module _ (linked : IsLinked s) (no_cycle : IsAcyclic s) (p : Entries) (are : AreEntriesOf s p) where
    writes : {a r : ℕ} {to : Link} → IsOutput s a r pool to → Writes s a pool to
    writes {r = r} o = record { act = o.act; reference = r; filled = o.filled; is_act = o.is_act; is = o.is; of_flow = o.of_flow; of_pool = o.of_pool; linked = o.linked }

    inside : {a r : ℕ} {to : Link} → IsOutput s a r pool to → a < length s.actions
    inside {a = a} o = slice_get_within s.actions a o.act o.is_act

    after : (ws rs : List ℕ) → Growing ws rs → (i : ℕ) → suc i < length ws → Must s (get_or ws i 0) (get_or ws (suc i) 0)
    after ws rs g i l =
        let w = writes (g.each (suc i) l) in
        Directly (get_or ws i 0) (get_or ws (suc i) 0) (get_or ws (suc i) 0)
        (linked.links_other (get_or ws (suc i) 0) pool (get_or ws i 0) (get_or rs i 0) StateOut w, Previous pool (before ws rs (suc i)) w (get_or rs i 0, refl)) Itself

    in_order : (ws rs : List ℕ) → Growing ws rs → (i j : ℕ) → i < j → j < length ws → Must s (get_or ws i 0) (get_or ws j 0)
    in_order ws rs g i zero h l = absurd (omega (arith, h))
    in_order ws rs g i (suc j) h l =
        ⊎_elim (λ k. Through (get_or ws i 0) (get_or ws j 0) (get_or ws (suc j) 0) (in_order ws rs g i j k (omega (arith, l))) (after ws rs g j l))
        (λ k. let e : i ≡ j = omega (arith, h, k) in subst (λ v. Must s (get_or ws v 0) (get_or ws (suc j) 0)) (sym e) (after ws rs g j l))
        (cases_lt i j)

    distinct : (ws rs : List ℕ) → Growing ws rs → Distinct ws
    distinct ws rs g i j l m e =
        no_cycle (get_or ws j 0) (inside (g.each j m)) (subst (λ v. Must s v (get_or ws j 0)) e (in_order ws rs g i j l m))

    short : (ws rs : List ℕ) → Growing ws rs → length ws ≤ length s.actions
    short ws rs g =
        let l = no_longer ws (numbers 0 (length s.actions)) (distinct ws rs g) (λ v c. let q = place_of ws v c in
        in_numbers 0 (length s.actions) v (omega arith) (let l = inside (g.each q.0 q.1) in let m : v < length s.actions = subst (λ x. x < length s.actions) q.2 l in omega (arith, m))) in
        let e = length-numbers 0 (length s.actions) in
        omega (arith, l, e)

    -- nothing follows the last
    record Full (ws rs : List ℕ) : Type 0 where
      growing : Growing ws rs
      none : (a r : ℕ) → IsOutput s a r pool (before ws rs (length ws)) → ⊥

    grow : (fuel : ℕ) (ws rs : List ℕ) → length s.actions ≤ length ws + fuel → Growing ws rs → (us : List ℕ) × (qs : List ℕ) × Full us qs
    grow zero ws rs l g =
        ⊎_elim
        (λ f. let h = push ws rs f.0 f.1 g f.2 in
        let m = short (ws ++ f.0 ∷ []) (rs ++ f.1 ∷ []) h in
        let n : length (ws ++ f.0 ∷ []) ≡ length ws + 1 = length-append ws (f.0 ∷ []) in
        absurd (omega (arith, l, m, n)))
        (λ n. (ws, rs, record { growing = g; none = n })) (find_next (before ws rs (length ws)))
    grow (suc fuel) ws rs l g =
        ⊎_elim
        (λ f. let n : length (ws ++ f.0 ∷ []) ≡ length ws + 1 = length-append ws (f.0 ∷ []) in
        grow fuel (ws ++ f.0 ∷ []) (rs ++ f.1 ∷ []) (omega (arith, l, n)) (push ws rs f.0 f.1 g f.2))
        (λ n. (ws, rs, record { growing = g; none = n })) (find_next (before ws rs (length ws)))

    module _ (ws rs : List ℕ) (full : Full ws rs) where
      -- the output is in the chain
      abbrev IsIn : ℕ → ℕ → Type 0
      IsIn a r = (i : ℕ) × (i < length ws) × (get_or ws i 0 ≡ a) × (get_or rs i 0 ≡ r)

      in_or : (a r : ℕ) → IsIn a r ⊎ (IsIn a r → ⊥)
      in_or a r =
          ⊎_elim (λ f. inl (f.0, f.1, f.2.0, f.2.1)) (λ n. inr (λ q. n q.0 q.1 (q.2, q.3)))
          (find (λ i. (get_or ws i 0 ≡ a) × (get_or rs i 0 ≡ r))
          (λ i. ⊎_elim (λ e. ⊎_elim (λ f. inl (e, f)) (λ n. inr (λ q. n q.1)) (cases_eq (get_or rs i 0) r)) (λ n. inr (λ q. n q.0)) (cases_eq (get_or ws i 0) a)) (length ws))

      -- an action has an output outside the chain
      record Left (a : ℕ) : Type 0 where
        reference : ℕ
        output : Output a reference
        out : IsIn a reference → ⊥

      left_or : Decided Left
      left_or a =
          ⊎_elim (λ f. inl (record { reference = f.0; output = f.1; out = f.2 })) (λ n. inr (λ q. n q.reference q.output q.out))
          (find_output a (λ r. IsIn a r → ⊥) (λ r. ⊎_elim (λ i. inr (λ n. n i)) (λ n. inl n) (in_or a r)))

      -- the first action with such an output has none
      by_link : (m r : ℕ) (to : Link) → IsOutput s m r pool to → (IsIn m r → ⊥) → ((y : ℕ) → y < length s.actions → Left y → Ordered s y m → ⊥) → ⊥
      by_link m r link.Nothing o out first = linked.writes_linked m pool (writes o)
      by_link m r link.Initial o out first =
          ⊎_elim
          (λ l. let e = linked.states.one_next pool (get_or ws 0 0) (get_or rs 0 0) m r link.Initial (full.growing.each 0 l) o in out (0, l, e.0, e.1))
          (λ l. let z : 0 ≡ length ws = omega (arith, l) in full.none m r (subst (λ i. IsOutput s m r pool (before ws rs i)) z o)) (cases_lt 0 (length ws))
      by_link m r (link.Act v q) o out first =
          let source = linked.states.previous m pool v q (writes o) in
          let v_in = linked.links_in m pool v q StateOut (writes o) in
          let other = linked.links_other m pool v q StateOut (writes o) in
          let order : Ordered s v m = record { a_in = v_in; b_in = inside o; must = Directly v m m (other, Previous pool (link.Act v q) (writes o) (q, refl)) Itself } in
          ⊎_elim
          (λ i. next i.0 i.1 (ap₂ link.Act i.2 i.3))
          (λ n. first v v_in (record { reference = q; output = (source.0, source.1); out = n }) order) (in_or v q)
        where
          next : (i : ℕ) → i < length ws → before ws rs (suc i) ≡ link.Act v q → ⊥
          next i l e =
              ⊎_elim
              (λ k. let f = linked.states.one_next pool (get_or ws (suc i) 0) (get_or rs (suc i) 0) m r (link.Act v q) (subst (λ t. IsOutput s (get_or ws (suc i) 0) (get_or rs (suc i) 0) pool t) e (full.growing.each (suc i) k)) o in
              out (suc i, k, f.0, f.1))
              (λ k. let z : suc i ≡ length ws = omega (arith, k, l) in
              full.none m r (subst (λ j. IsOutput s m r pool (before ws rs j)) z (subst (λ t. IsOutput s m r pool t) (sym e) o))) (cases_lt (suc i) (length ws))

      none_left : (a : ℕ) → Left a → ⊥
      none_left a q = absurd_at (least (Ordered s) (ordered_or s p are)
          (λ x y z o w. record { a_in = o.a_in; b_in = w.b_in; must = Through x y z o.must w.must })
          (λ x o. no_cycle x o.a_in o.must) Left left_or (length s.actions) a (inside q.output.1) q)
        where
          absurd_at : (m : ℕ) × (m < length s.actions) × Left m × ((y : ℕ) → y < length s.actions → Left y → Ordered s y m → ⊥) → ⊥
          absurd_at (m, l, left, first) = by_link m left.reference left.output.0 left.output.1 left.out first

      all_in : (a r : ℕ) (to : Link) → IsOutput s a r pool to → IsIn a r
      all_in a r to o = ⊎_elim (λ i. i) (λ n. absurd (none_left a (record { reference = r; output = (to, o); out = n }))) (in_or a r)

      names : (i : ℕ) → Names (before ws rs i) (previous ws i)
      names zero = refl
      names (suc i) = refl

      the_chain : Chain s pool
      the_chain =
          record {
            writers = ws;
            each = λ i l. (before ws rs i, writes (full.growing.each i l), names i);
            all = λ a to w.
                let o : IsOutput s a w.reference pool to = record { act = w.act; filled = w.filled; is_act = w.is_act; is = w.is; of_flow = w.of_flow; of_pool = w.of_pool; linked = w.linked } in
                let i = all_in a w.reference to o in
                let there = full.growing.each i.0 i.1 in
                let same : before ws rs i.0 ≡ to = one_previous a w.reference (before ws rs i.0) to
                (subst (λ y. IsOutput s a y pool (before ws rs i.0)) i.3 (subst (λ x. IsOutput s x (get_or rs i.0 0) pool (before ws rs i.0)) i.2 there)) o in
                (i.0, i.1, i.2, subst (λ t. Names t (previous ws i.0)) same (names i.0));
          }

    pub linked_chain : Chain s pool
    linked_chain =
        let f = grow (length s.actions) [] [] (omega arith) (record { same = refl; each = λ i l. absurd (omega (arith, l)) }) in
        the_chain f.0 f.1 f.2
