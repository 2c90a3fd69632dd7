-- What the proofs on the core use of a scenario, and that it follows from a whole legal trace.
use Rattle.std.proofs.Common.{◌≡◌, ℕ, zero, suc, ◌<◌, ◌≤◌, length, get_or, Option, Some, None, refl, sym, ap, ◌∙◌, subst, ⊎_elim, arith}
use Rattle.std.proofs.lemmas.Bool.{cases_order, cases_lt}
use Rattle.pst_scen.specs.declared.act.Link.{Link}
use Rattle.pst_scen.specs.declared.act.Link.TheVariants as link
use Rattle.pst_scen.specs.declared.scenario.Scenario.{Scenario}
use Rattle.pst_scen.specs.Flows.{Feeds, Reads, Writes, LeadsTo}
use Rattle.pst_scen.specs.Order.{Before, Together, Itself, Must, Directly, Through, Previous}
use Rattle.pst_scen.specs.Conflicts.{Conflict}
use Rattle.pst_scen.specs.Trace.{Names, last_writer, IsWhole, events}
use Rattle.pst_scen.specs.Plans.{CanRun}
use Rattle.pst_order.specs.Facts.{IsOutput, LinksStates}
use Rattle.pst_order.proofs.Joined.{refers_in, names_leads}
use Rattle.pst_order.proofs.Needed.{whole_must_in, whole_group_in, whole_no_cycle, whole_no_clash, whole_before_other, whole_feeds_other, whole_source_other, whole_previous_other, whole_source}
use Rattle.pst_order.proofs.FromWhole.{Chain, previous, whole_chain}

-- the i-th writer
abbrev pub at : {s : Scenario} {pool : ℕ} → Chain s pool → ℕ → ℕ
at c i = get_or c.writers i 0

-- no cycle among the actions
abbrev pub IsAcyclic : Scenario → Type 0
IsAcyclic s = (a : ℕ) → a < length s.actions → Must s a a → ⊥

-- no writer is its own previous writer
abbrev pub IsNotOwnPrevious : Scenario → Type 0
IsNotOwnPrevious s = (b pool : ℕ) (to : Link) → Writes s b pool to → LeadsTo to b → ⊥

pub record Sound (s : Scenario) : Type 0 where
  pub must_in : (a b : ℕ) → b < length s.actions → Must s a b → a < length s.actions
  pub group_in : (a b : ℕ) → a < length s.actions → Together s a b → b < length s.actions
  pub before_other : (b : ℕ) → b < length s.actions → Before s b b → ⊥
  pub feeds_other : (b : ℕ) → Feeds s b b → ⊥
  pub source_other : (b pool : ℕ) (to : Link) → Reads s b pool to → LeadsTo to b → ⊥
  pub previous_other : IsNotOwnPrevious s
  pub no_cycle : IsAcyclic s
  pub no_clash : (a b : ℕ) → Together s a b → Conflict s a b → ⊥
  pub chain : (pool : ℕ) → Chain s pool
  pub source : (b pool : ℕ) (to : Link) → Reads s b pool to → (i : ℕ) × (i ≤ length (chain pool).writers) × Names to (previous (chain pool).writers i)
  pub same_link : (b x pool : ℕ) (to other : Link) (last : Option ℕ) → Reads s b pool to → Writes s x pool other → Names to last → Names other last → to ≡ other

-- the writers of a chain are ordered
module _ (s : Scenario) (no_cycle : IsAcyclic s) (not_own : IsNotOwnPrevious s) (pool : ℕ) (c : Chain s pool) where
  pub writer_in : (i : ℕ) → i < length c.writers → at c i < length s.actions
  writer_in i l = refers_in (c.each i l).1

  after_previous : (i : ℕ) → suc i < length c.writers → Must s (at c i) (at c (suc i))
  after_previous i l =
      let w = c.each (suc i) l in
      let leads = names_leads w.0 (at c i) w.2 in
      Directly (at c i) (at c (suc i)) (at c (suc i)) ((λ e. not_own (at c (suc i)) pool w.0 w.1 (subst (λ v. LeadsTo w.0 v) e leads)), Previous pool w.0 w.1 leads) Itself

  pub in_order : (i j : ℕ) → i < j → j < length c.writers → Must s (at c i) (at c j)
  in_order i zero h l = absurd (omega (arith, h))
  in_order i (suc j) h l =
      ⊎_elim (λ k. Through (at c i) (at c j) (at c (suc j)) (in_order i j k (omega (arith, l))) (after_previous j l))
      (λ k. let e : i ≡ j = omega (arith, h, k) in subst (λ v. Must s (at c v) (at c (suc j))) (sym e) (after_previous j l))
      (cases_lt i j)

  pub distinct : (i j : ℕ) → i < length c.writers → j < length c.writers → at c i ≡ at c j → i ≡ j
  distinct i j l m e =
      ⊎_elim (λ q. q)
      (λ q. absurd (⊎_elim
      (λ k. no_cycle (at c j) (writer_in j m) (subst (λ v. Must s v (at c j)) e (in_order i j k m)))
      (λ k. no_cycle (at c j) (writer_in j m) (subst (λ v. Must s (at c j) v) e (in_order j i k l))) q))
      (cases_order i j)

  -- ONE OUTPUT OF AN ACTION TO THE POOL

  pub writes_of : {a reference : ℕ} {to : Link} → IsOutput s a reference pool to → Writes s a pool to
  writes_of {reference = reference} o =
      record { act = o.act; reference = reference; filled = o.filled; is_act = o.is_act; is = o.is; of_flow = o.of_flow; of_pool = o.of_pool; linked = o.linked }

  none_names : (to : Link) → Names to None → to ≡ link.Initial
  none_names link.Nothing m = absurd m
  none_names link.Initial m = refl
  none_names (link.Act a reference) m = cc

  -- an output of the i-th writer names the writer before
  output_names : (i : ℕ) → i < length c.writers → (reference : ℕ) (to : Link) → IsOutput s (at c i) reference pool to → Names to (previous c.writers i)
  output_names i l reference to o =
      let p = c.all (at c i) to (writes_of o) in
      subst (λ j. Names to (previous c.writers j)) (distinct p.0 i p.1 l p.2) p.3

  one_output : LinksStates s → (i : ℕ) → i < length c.writers → (reference other : ℕ) (to next : Link) → IsOutput s (at c i) reference pool to → IsOutput s (at c i) other pool next → reference ≡ other
  one_output links zero l reference other to next o q =
      let e : next ≡ to = none_names next (output_names zero l other next q) ∙ sym (none_names to (output_names zero l reference to o)) in
      (links.one_next pool (at c zero) reference (at c zero) other to o (subst (λ t. IsOutput s (at c zero) other pool t) e q)).1
  one_output links (suc j) l reference other to next o q =
      let a = names_leads to (at c j) (output_names (suc j) l reference to o) in
      let b = names_leads next (at c j) (output_names (suc j) l other next q) in
      let x = links.previous (at c (suc j)) pool (at c j) a.0 (subst (λ t. Writes s (at c (suc j)) pool t) a.1 (writes_of o)) in
      let y = links.previous (at c (suc j)) pool (at c j) b.0 (subst (λ t. Writes s (at c (suc j)) pool t) b.1 (writes_of q)) in
      let same : a.0 ≡ b.0 = one_output links j (omega (arith, l)) a.0 b.0 x.0 y.0 x.1 y.1 in
      let e : next ≡ to = b.1 ∙ ap (λ r. link.Act (at c j) r) (sym same) ∙ sym a.1 in
      (links.one_next pool (at c (suc j)) reference (at c (suc j)) other to o (subst (λ t. IsOutput s (at c (suc j)) other pool t) e q)).1

  -- a reader and a writer whose links name one writer have one link
  pub one_link : LinksStates s → (b x : ℕ) (to other : Link) (last : Option ℕ) → Reads s b pool to → Writes s x pool other → Names to last → Names other last → to ≡ other
  one_link links b x to other None r w m n = none_names to m ∙ sym (none_names other n)
  one_link links b x to other (Some v) r w m n =
      let a = names_leads to v m in
      let d = names_leads other v n in
      let o = links.source b pool v a.0 (subst (λ t. Reads s b pool t) a.1 r) in
      let q = links.previous x pool v d.0 (subst (λ t. Writes s x pool t) d.1 w) in
      let p = c.all v o.0 (writes_of o.1) in
      let same : a.0 ≡ d.0 = one_output links p.0 p.1 a.0 d.0 o.0 q.0
      (subst (λ y. IsOutput s y a.0 pool o.0) (sym p.2) o.1) (subst (λ y. IsOutput s y d.0 pool q.0) (sym p.2) q.1) in
      a.1 ∙ ap (λ y. link.Act v y) same ∙ sym d.1

  -- the place behind a reader's source
  pub source_place : LinksStates s → (b : ℕ) (to : Link) → Reads s b pool to → (to ≡ link.Nothing → ⊥) → (i : ℕ) × (i ≤ length c.writers) × Names to (previous c.writers i)
  source_place links b link.Nothing r n = absurd (n refl)
  source_place links b link.Initial r n = (0, omega arith, refl)
  source_place links b (link.Act v reference) r n =
      let o = links.source b pool v reference r in
      let p = c.all v o.0 (writes_of o.1) in
      (suc p.0, omega (arith, p.1), ap Some p.2)

-- Where a whole legal trace exists the scenario is sound.
pub runs_sound : (s : Scenario) → LinksStates s → CanRun s → Sound s
runs_sound s links runs =
    let h = runs.legal.blocks in
    let k = runs.legal.legal in
    let w = subst (IsWhole s) (sym runs.legal.are) runs.whole in
    let chain = λ (pool : ℕ). whole_chain s runs.lanes pool h k w in
    let no_cycle = whole_no_cycle s runs.lanes h k w in
    let not_own = whole_previous_other s runs.lanes h k w in
    record {
      must_in = whole_must_in s runs.lanes h k w;
      group_in = whole_group_in s runs.lanes h k w;
      before_other = whole_before_other s runs.lanes h k w;
      feeds_other = whole_feeds_other s runs.lanes h k w;
      source_other = whole_source_other s runs.lanes h k w;
      previous_other = not_own;
      no_cycle = no_cycle;
      no_clash = whole_no_clash s runs.lanes h k w;
      chain = chain;
      source = λ b pool to r. source_place s no_cycle not_own pool (chain pool) links b to r
          (λ e. let x = whole_source s runs.lanes h k w b pool to r in subst (λ t. Names t (last_writer s pool (events x.0))) e x.1);
      same_link = λ b x pool to other last r v m n. one_link s no_cycle not_own pool (chain pool) links b x to other last r v m n;
    }
