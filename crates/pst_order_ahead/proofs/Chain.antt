-- In a supplied scenario the writers of a state pool stand in one chain.
use Rattle.std.proofs.Common.{◌≡◌, ◌≢◌, ◌⊎◌, ℕ, List, Some, true, refl, sym, ap, ◌∙◌, subst, inl, inr, ⊎_elim}
use Rattle.std.specs.Prelude.{slice_get}
use Rattle.std.proofs.lemmas.Option.{same_Some, option_and_then_some}
use Rattle.std.proofs.lemmas.Bool.{false≢true, cases_eq}
use Rattle.pst_model.specs.ModelTree.{ModelTree}
use Rattle.pst_scen.specs.declared.act.Act.{Act}
use Rattle.pst_scen.specs.declared.act.Filled.{Filled}
use Rattle.pst_scen.specs.declared.act.Flow.{Flow}
use Rattle.pst_scen.specs.declared.act.Flow.TheVariants.{BufferIn, BufferOut, StreamIn, StreamOut, StateIn, StateOut}
use Rattle.pst_scen.specs.declared.act.Link.{Link}
use Rattle.pst_scen.specs.declared.act.Link.TheVariants as link
use Rattle.pst_scen.specs.declared.scenario.Scenario.{Scenario}
use Rattle.pst_scen.specs.Scenarios.{reference_at}
use Rattle.pst_scen.specs.Flows.{Reads, Writes}
use Rattle.pst_scen.specs.Order.{Itself, Source, Previous, Replaced, Must, Directly, Through}
use Rattle.pst_scen.specs.Conflicts.{Uses}
use Rattle.pst_legal.specs.Supplied.{is_source_for, ComesFromFirst, AtFirst, AfterWriter, Supplied}
use Rattle.pst_built.proofs.Spots.{at_act}
use Rattle.pst_order_ahead.specs.Ahead.{Takes}

-- the source of a reference to a state pool writes it
read_from : (flow : Flow) → is_source_for StateIn flow ≡ true → flow ≡ StateOut
read_from StateOut e = refl
read_from StateIn e = absurd (false≢true e)
read_from BufferIn e = absurd (false≢true e)
read_from BufferOut e = absurd (false≢true e)
read_from StreamIn e = absurd (false≢true e)
read_from StreamOut e = absurd (false≢true e)

written_after : (flow : Flow) → is_source_for StateOut flow ≡ true → flow ≡ StateOut
written_after StateOut e = refl
written_after StateIn e = absurd (false≢true e)
written_after BufferIn e = absurd (false≢true e)
written_after BufferOut e = absurd (false≢true e)
written_after StreamIn e = absurd (false≢true e)
written_after StreamOut e = absurd (false≢true e)

-- the reference is an output to the pool
record IsWriter (acts : List Act) (pool a r : ℕ) : Type 0 where
  filled : Filled
  is : reference_at acts a r ≡ Some filled
  of_flow : filled.flow ≡ StateOut
  of_pool : filled.pool ≡ pool

-- the output, and those before it, back to the first object
data Chain (acts : List Act) (pool : ℕ) : ℕ → ℕ → Type 0 where
  Begins : (a r : ℕ) (w : IsWriter acts pool a r) → w.filled.link ≡ link.Initial → Chain acts pool a r
  GoesOn : (a r b q : ℕ) (w : IsWriter acts pool a r) → w.filled.link ≡ link.Act b q → Chain acts pool b q → Chain acts pool a r

-- the second output comes somewhere behind the first
data Follows (acts : List Act) (pool a r : ℕ) : ℕ → ℕ → Type 0 where
  Next : (b q : ℕ) (w : IsWriter acts pool b q) → w.filled.link ≡ link.Act a r → Follows acts pool a r b q
  Later : (b q c k : ℕ) (w : IsWriter acts pool b q) → w.filled.link ≡ link.Act c k → Follows acts pool a r c k → Follows acts pool a r b q

abbrev AreOne : ℕ → ℕ → ℕ → ℕ → Type 0
AreOne a r b q = (a ≡ b) × (r ≡ q)

act_link : (a b r q : ℕ) → a ≡ b → r ≡ q → link.Act b q ≡ link.Act a r
act_link a b r q e f = cc

initial_act : (b q : ℕ) → link.Initial ≡ link.Act b q → ⊥
initial_act b q e = cc

module _ (m : ModelTree) (t : Scenario) (supplied : Supplied m t) (pool : ℕ) where
  abbrev acts : List Act
  acts = t.actions

  -- the output before one
  before : (a r b q : ℕ) (w : IsWriter acts pool a r) → w.filled.link ≡ link.Act b q → IsWriter acts pool b q
  before a r b q w e =
      let s = supplied.sources a r b q w.filled w.is e in
      record {
        filled = s.source;
        is = s.is;
        of_flow = written_after s.source.flow (subst (λ f. is_source_for f s.source.flow ≡ true) w.of_flow s.fits);
        of_pool = s.pool ∙ w.of_pool;
      }

  one : (a r b q : ℕ) (w : IsWriter acts pool a r) (v : IsWriter acts pool b q) → w.filled.link ≡ v.filled.link → AreOne a r b q
  one a r b q w v e = supplied.previous a r b q w.filled v.filled w.is v.is w.of_flow v.of_flow (w.of_pool ∙ sym v.of_pool) e

  to_chain : (a r : ℕ) → IsWriter acts pool a r → ComesFromFirst acts a r → Chain acts pool a r
  to_chain a r w (AtFirst _ _ filled is e) = Begins a r w (ap (λ (f : Filled). f.link) (same_Some w.filled filled (sym w.is ∙ is)) ∙ e)
  to_chain a r w (AfterWriter _ _ b q filled is e rest) =
      let here : w.filled.link ≡ link.Act b q = ap (λ (f : Filled). f.link) (same_Some w.filled filled (sym w.is ∙ is)) ∙ e in
      GoesOn a r b q w here (to_chain b q (before a r b q w here) rest)

  chain : (a r : ℕ) → IsWriter acts pool a r → Chain acts pool a r
  chain a r w = to_chain a r w (supplied.chains a r w.filled w.is w.of_flow)

  -- the output behind (u, k) is any other one behind that, or comes before it
  passes : (u k a r : ℕ) (w : IsWriter acts pool a r) → w.filled.link ≡ link.Act u k → (b q : ℕ) → Follows acts pool u k b q → AreOne a r b q ⊎ Follows acts pool a r b q
  passes u k a r w e _ _ (Next b q v f) = inl (one a r b q w v (e ∙ sym f))
  passes u k a r w e _ _ (Later b q c l v f rest) =
      inr (⊎_elim (λ same. Next b q v (f ∙ act_link a c r l same.0 same.1)) (λ more. Later b q c l v f more) (passes u k a r w e c l rest))

  -- the output that replaces the first object is any other one, or comes before it
  first : (a r : ℕ) (w : IsWriter acts pool a r) → w.filled.link ≡ link.Initial → (b q : ℕ) → Chain acts pool b q → AreOne a r b q ⊎ Follows acts pool a r b q
  first a r w e _ _ (Begins b q v f) = inl (one a r b q w v (e ∙ sym f))
  first a r w e _ _ (GoesOn b q c l v f rest) =
      inr (⊎_elim (λ same. Next b q v (f ∙ act_link a c r l same.0 same.1)) (λ more. Later b q c l v f more) (first a r w e c l rest))

  total : (a r b q : ℕ) → Chain acts pool a r → Chain acts pool b q → AreOne a r b q ⊎ (Follows acts pool a r b q ⊎ Follows acts pool b q a r)
  total _ _ b q (Begins a r w e) other = ⊎_elim (λ same. inl same) (λ more. inr (inl more)) (first a r w e b q other)
  total _ _ b q (GoesOn a r u k w e rest) other =
      ⊎_elim (λ same. inr (inr (Next a r w (e ∙ act_link b u q k (sym same.0) (sym same.1)))))
      (λ more. ⊎_elim
      (λ below. ⊎_elim (λ same. inl same) (λ behind. inr (inl behind)) (passes u k a r w e b q below))
      (λ above. inr (inr (Later a r u k w e above))) more) (total u k b q rest other)

  -- ---- in the order of the actions

  writes : (a r : ℕ) (w : IsWriter acts pool a r) → Writes t a pool w.filled.link
  writes a r w =
      option_and_then_some (λ (act : Act). slice_get act.references r) (slice_get t.actions a) w.filled w.is
      (λ act is_act is. record { act = act; reference = r; filled = w.filled; is_act = is_act; is = is; of_flow = w.of_flow; of_pool = w.of_pool; linked = refl })

  step : (a r b q : ℕ) (w : IsWriter acts pool a r) → w.filled.link ≡ link.Act b q → Must t b a
  step a r b q w e = Directly b a a ((supplied.sources a r b q w.filled w.is e).other, Previous pool w.filled.link (writes a r w) (q, e)) Itself

  follows_must : (a r b q : ℕ) → Follows acts pool a r b q → Must t a b
  follows_must a r _ _ (Next b q w e) = step b q a r w e
  follows_must a r _ _ (Later b q c k w e rest) = Through a c b (follows_must a r c k rest) (step b q c k w e)

  writer : (a : ℕ) (to : Link) → Writes t a pool to → (r : ℕ) × (w : IsWriter acts pool a r) × (w.filled.link ≡ to)
  writer a to x = (x.reference, record { filled = x.filled; is = at_act acts a x.reference x.act x.filled x.is_act x.is; of_flow = x.of_flow; of_pool = x.of_pool }, x.linked)

  -- what a reader's link names
  read : (a b q : ℕ) → Reads t a pool (link.Act b q) → IsWriter acts pool b q
  read a b q x =
      let s = supplied.sources a x.reference b q x.filled (at_act acts a x.reference x.act x.filled x.is_act x.is) x.linked in
      record {
        filled = s.source;
        is = s.is;
        of_flow = read_from s.source.flow (subst (λ f. is_source_for f s.source.flow ≡ true) x.of_flow s.fits);
        of_pool = s.pool ∙ x.of_pool;
      }

  read_other : (a b q : ℕ) → Reads t a pool (link.Act b q) → b ≢ a
  read_other a b q x = (supplied.sources a x.reference b q x.filled (at_act acts a x.reference x.act x.filled x.is_act x.is) x.linked).other

  -- a reader of what an output replaces is the writer, or comes before it
  replaced : (a b q : ℕ) (to : Link) → Reads t a pool to → (w : IsWriter acts pool b q) → w.filled.link ≡ to → (a ≡ b) ⊎ Must t a b
  replaced a b q to reads w e =
      ⊎_elim (λ same. inl same) (λ other. inr (Directly a b b (other, Replaced pool to reads (subst (Writes t b pool) e (writes b q w))) Itself)) (cases_eq a b)

  -- it is the writer of any later output, or comes before it
  reader_first : (a : ℕ) → Reads t a pool link.Initial → (b q : ℕ) → Chain acts pool b q → (a ≡ b) ⊎ Must t a b
  reader_first a reads _ _ (Begins b q w e) = replaced a b q link.Initial reads w e
  reader_first a reads _ _ (GoesOn b q c k w e rest) =
      inr (⊎_elim (λ same. subst (λ x. Must t x b) (sym same) (step b q c k w e)) (λ must. Through a c b must (step b q c k w e)) (reader_first a reads c k rest))

  reader_next : (a u k : ℕ) → Reads t a pool (link.Act u k) → (b q : ℕ) → Follows acts pool u k b q → (a ≡ b) ⊎ Must t a b
  reader_next a u k reads _ _ (Next b q w e) = replaced a b q (link.Act u k) reads w e
  reader_next a u k reads _ _ (Later b q c l w e rest) =
      inr (⊎_elim (λ same. subst (λ x. Must t x b) (sym same) (step b q c l w e)) (λ must. Through a c b must (step b q c l w e)) (reader_next a u k reads c l rest))

  -- who reads or replaces the first object comes before every other writer
  pub takes_first : (a b : ℕ) (to : Link) → a ≢ b → Takes t a pool link.Initial → Writes t b pool to → Must t a b
  takes_first a b to other (inl reads) x =
      let w = writer b to x in
      ⊎_elim (λ same. absurd (other same)) (λ must. must) (reader_first a reads b w.0 (chain b w.0 w.1))
  takes_first a b to other (inr own) x =
      let w = writer b to x in
      let v = writer a link.Initial own in
      ⊎_elim (λ same. absurd (other same.0)) (λ more. follows_must a v.0 b w.0 more) (first a v.0 v.1 v.2 b w.0 (chain b w.0 w.1))

  -- where c reads or replaces b's object, another writer comes before b, or is c or comes after it
  pub takes_next : (a b c reference : ℕ) (to : Link) → a ≢ b → Takes t c pool (link.Act b reference) → Writes t a pool to → Must t a b ⊎ ((c ≡ a) ⊎ Must t c a)
  takes_next a b c reference to other takes x = by takes
    where
      by : Takes t c pool (link.Act b reference) → Must t a b ⊎ ((c ≡ a) ⊎ Must t c a)
      by (inl reads) =
          let w = writer a to x in
          ⊎_elim (λ same. absurd (other same.0))
          (λ more. ⊎_elim (λ below. inl (follows_must a w.0 b reference below)) (λ above. inr (reader_next c b reference reads a w.0 above)) more)
          (total a w.0 b reference (chain a w.0 w.1) (chain b reference (read c b reference reads)))
      by (inr own) =
          let w = writer a to x in
          let v = writer c (link.Act b reference) own in
          ⊎_elim (λ same. absurd (other same.0))
          (λ more. ⊎_elim (λ below. inl (follows_must a w.0 b reference below))
          (λ above. inr (⊎_elim (λ same. inl same.0) (λ behind. inr (follows_must c v.0 a w.0 behind)) (passes b reference c v.0 v.1 v.2 a w.0 above))) more)
          (total a w.0 b reference (chain a w.0 w.1) (chain b reference (before c v.0 b reference v.1 v.2)))

  -- what is read comes from somewhere
  reads_ordered : (a b : ℕ) (from to : Link) → a ≢ b → Reads t a pool from → (from ≡ link.Nothing → ⊥) → Writes t b pool to → Must t a b ⊎ Must t b a
  reads_ordered a b link.Nothing to other reads some x = absurd (some refl)
  reads_ordered a b link.Initial to other reads some x = inl (takes_first a b to other (inl reads) x)
  reads_ordered a b (link.Act c k) to other reads some x = by (cases_eq b c)
    where
      source : Must t c a
      source = Directly c a a (read_other a c k reads, Source pool (link.Act c k) reads (k, refl)) Itself

      by : (b ≡ c) ⊎ (b ≢ c) → Must t a b ⊎ Must t b a
      by (inl same) = inr (subst (λ y. Must t y a) (sym same) source)
      by (inr apart) =
          ⊎_elim (λ must. inr (Through b c a must source)) (λ more. ⊎_elim (λ same. absurd (other same)) (λ must. inl must) more) (takes_next b c a k to apart (inl reads) x)

  writes_ordered : (a b : ℕ) (from to : Link) → a ≢ b → Writes t a pool from → Writes t b pool to → Must t a b ⊎ Must t b a
  writes_ordered a b from to other x y =
      let w = writer a from x in
      let v = writer b to y in
      ⊎_elim (λ same. absurd (other same.0))
      (λ more. ⊎_elim (λ below. inl (follows_must a w.0 b v.0 below)) (λ above. inr (follows_must b v.0 a w.0 above)) more)
      (total a w.0 b v.0 (chain a w.0 w.1) (chain b v.0 v.1))

  -- one who uses the pool and one who writes it are ordered, where reads have sources
  pub users_ordered : ((c : ℕ) → Reads t c pool link.Nothing → ⊥) → (a b : ℕ) (to : Link) → a ≢ b → Uses t a pool → Writes t b pool to → Must t a b ⊎ Must t b a
  users_ordered linked a b to other (from, inl reads) x = reads_ordered a b from to other reads (λ e. linked a (subst (Reads t a pool) e reads)) x
  users_ordered linked a b to other (from, inr own) x = writes_ordered a b from to other own x
