-- Where a scenario can run, previous writers lead back to the first object.
use Rattle.std.proofs.Common.{◌≡◌, ◌≢◌, ℕ, List, [], ◌∷◌, ◌++◌, Bool, true, false, Some, refl, sym, subst, inl, inr, ⊎_elim, append_assoc}
use Rattle.std.specs.Prelude.{slice_get, Contains}
use Rattle.std.proofs.lemmas.Option.{option_and_then_some, slice_get_within}
use Rattle.std.proofs.lemmas.Bool.{false≢true}
use Rattle.pst_model.specs.ModelTree.{ModelTree}
use Rattle.pst_scen.specs.declared.act.Act.{Act}
use Rattle.pst_scen.specs.declared.act.Filled.{Filled}
use Rattle.pst_scen.specs.declared.act.Flow.{Flow}
use Rattle.pst_scen.specs.declared.act.Flow.TheVariants.{BufferIn, BufferOut, StreamIn, StreamOut, StateIn, StateOut}
use Rattle.pst_scen.specs.declared.act.Link.{Link}
use Rattle.pst_scen.specs.declared.act.Link.TheVariants as link
use Rattle.pst_scen.specs.declared.scenario.Scenario.{Scenario}
use Rattle.pst_scen.specs.declared.event.Event.{Event}
use Rattle.pst_scen.specs.declared.event.Event.TheVariants.{Start, End}
use Rattle.pst_scen.specs.Scenarios.{reference_at}
use Rattle.pst_scen.specs.Flows.{Writes}
use Rattle.pst_scen.specs.Order.{Directly, Itself, Previous}
use Rattle.pst_scen.specs.Trace.{Started, Ended, Names, last_writer, Block, Starts, Ends, starts_of, events, AreLegal, IsWhole}
use Rattle.pst_legal.specs.Supplied.{is_source_for, ComesFromFirst, AtFirst, AfterWriter}
use Rattle.pst_built.specs.Sources.{HasSources}
use Rattle.pst_built.proofs.Members.{In, in_append, to_left, to_contains, from_contains}
use Rattle.pst_order.specs.Laws.{MustEndsBefore}
use Rattle.pst_read_legal.specs.Laws.{WritersComeFromFirst}

-- the source of a state output is one
writes_state : (flow : Flow) → is_source_for StateOut flow ≡ true → flow ≡ StateOut
writes_state StateOut e = refl
writes_state StateIn e = absurd (false≢true e)
writes_state BufferIn e = absurd (false≢true e)
writes_state BufferOut e = absurd (false≢true e)
writes_state StreamIn e = absurd (false≢true e)
writes_state StreamOut e = absurd (false≢true e)

-- ---- events

no_end : (ms us : List ℕ) (b : ℕ) → In (End b) (starts_of ms us) → ⊥
no_end [] us b has = has
no_end (a ∷ ms) [] b has = has
no_end (a ∷ []) (l ∷ ls) b (inl e) = cc
no_end (a ∷ []) (l ∷ ls) b (inr none) = none
no_end (a ∷ c ∷ ms) (l ∷ ls) b (inl e) = cc
no_end (a ∷ c ∷ ms) (l ∷ ls) b (inr has) = no_end (c ∷ ms) ls b has

same_start : (a b l k : ℕ) (m n : Bool) → Start a l m ≡ Start b k n → a ≡ b
same_start a b l k m n e = cc

start_in : (ms us : List ℕ) (a l : ℕ) (more : Bool) → In (Start a l more) (starts_of ms us) → In a ms
start_in [] us a l more has = has
start_in (b ∷ ms) [] a l more has = absurd has
start_in (b ∷ []) (k ∷ ks) a l more (inl e) = inl (same_start b a k l false more e)
start_in (b ∷ []) (k ∷ ks) a l more (inr none) = absurd none
start_in (b ∷ c ∷ ms) (k ∷ ks) a l more (inl e) = inl (same_start b a k l true more e)
start_in (b ∷ c ∷ ms) (k ∷ ks) a l more (inr has) = inr (start_in (c ∷ ms) ks a l more has)

end_is : (b a : ℕ) → In (End a) (End b ∷ []) → b ≡ a
end_is b a (inl e) = cc
end_is b a (inr none) = absurd none

end_no_start : (b a l : ℕ) (more : Bool) → In (Start a l more) (End b ∷ []) → ⊥
end_no_start b a l more (inl e) = cc
end_no_start b a l more (inr none) = none

inside : {A : Type 0} (xs : List A) (x : A) → Contains xs x → In x xs
inside xs x has = from_contains xs x has.0 has.1 has.2

started : (trace : List Event) (a l : ℕ) (more : Bool) → In (Start a l more) trace → Started trace a
started trace a l more has = (l, (more, to_contains trace (Start a l more) has))

-- an event of one block more
earlier : (older : List Block) (new : List Event) (a : ℕ) → Started (events older) a → Started (events older ++ new) a
earlier older new a (l, (more, has)) = started (events older ++ new) a l more (to_left (events older) new (Start a l more) (inside (events older) (Start a l more) has))

module _ (s : Scenario) (lanes : ℕ) where
  -- what has ended had started
  ended_started : (h : List Block) → AreLegal s lanes h → (a : ℕ) → In (End a) (events h) → Started (events h) a
  ended_started [] legal a has = absurd has
  ended_started (Starts ms us ∷ older) legal a has =
      ⊎_elim (λ e. earlier older (starts_of ms us) a (ended_started older legal.0 a e)) (λ e. absurd (no_end ms us a e)) (in_append (events older) (starts_of ms us) (End a) has)
  ended_started (Ends b ∷ older) legal a has =
      ⊎_elim (λ e. earlier older (End b ∷ []) a (ended_started older legal.0 a e))
      (λ e. earlier older (End b ∷ []) a (subst (Started (events older)) (end_is b a e) legal.1.0)) (in_append (events older) (End b ∷ []) (End a) has)

module _ (before : MustEndsBefore) (m : ModelTree) (s : Scenario) (sources : HasSources m s) (lanes : ℕ) where
  abbrev Leads : ℕ → Type 0
  Leads a = (r : ℕ) (filled : Filled) → reference_at s.actions a r ≡ Some filled → filled.flow ≡ StateOut → ComesFromFirst s.actions a r

  by_link : (older : List Block) → AreLegal s lanes older → ((b : ℕ) → Started (events older) b → Leads b) → (a r : ℕ) (filled : Filled) → reference_at s.actions a r ≡ Some filled → filled.flow ≡ StateOut
      → ((b q : ℕ) → filled.link ≡ link.Act b q → b ≢ a → Ended (events older) b) → (to : Link) → filled.link ≡ to → Names to (last_writer s filled.pool (events older)) → ComesFromFirst s.actions a r
  by_link older legal each a r filled is flow ended link.Nothing e names = absurd names
  by_link older legal each a r filled is flow ended link.Initial e names = AtFirst a r filled is e
  by_link older legal each a r filled is flow ended (link.Act b q) e names =
      let source = sources.sources a r b q filled is e in
      let writes : source.source.flow ≡ StateOut = writes_state source.source.flow (subst (λ f. is_source_for f source.source.flow ≡ true) flow source.fits) in
      let began = ended_started s lanes older legal b (inside (events older) (End b) (ended b q e source.other)) in
      AfterWriter a r b q filled is e (each b began q source.source source.is writes)

  -- in a history that a whole legal one goes on from
  leads : (newer h : List Block) → AreLegal s lanes h → AreLegal s lanes (newer ++ h) → IsWhole s (events (newer ++ h)) → (a : ℕ) → Started (events h) a → Leads a
  leads newer [] legal all whole a (l, (more, has)) = absurd (inside [] (Start a l more) has)
  leads newer (Ends b ∷ older) legal all whole a (l, (more, has)) =
      let same = append_assoc newer (Ends b ∷ []) older in
      ⊎_elim
      (λ e. leads (newer ++ Ends b ∷ []) older legal.0 (subst (AreLegal s lanes) (sym same) all) (subst (λ t. IsWhole s (events t)) (sym same) whole) a (started (events older) a l more e))
      (λ e. absurd (end_no_start b a l more e)) (in_append (events older) (End b ∷ []) (Start a l more) (inside (events older ++ End b ∷ []) (Start a l more) has))
  leads newer (Starts ms us ∷ older) legal all whole a (l, (more, has)) =
      let same = append_assoc newer (Starts ms us ∷ []) older in
      let each : (b : ℕ) → Started (events older) b → Leads b = λ b begins.
      leads (newer ++ Starts ms us ∷ []) older legal.0 (subst (AreLegal s lanes) (sym same) all) (subst (λ t. IsWhole s (events t)) (sym same) whole) b begins in
      ⊎_elim (λ e. each a (started (events older) a l more e)) (λ e. here each (to_contains ms a (start_in ms us a l more e)))
      (in_append (events older) (starts_of ms us) (Start a l more) (inside (events older ++ starts_of ms us) (Start a l more) has))
    where
      here : ((b : ℕ) → Started (events older) b → Leads b) → Contains ms a → Leads a
      here each among r filled is flow =
          option_and_then_some (λ (act : Act). slice_get act.references r) (slice_get s.actions a) filled is
          (λ act is_act at.
          let writes : Writes s a filled.pool filled.link = record { act = act; reference = r; filled = filled; is_act = is_act; is = at; of_flow = flow; of_pool = refl; linked = refl } in
          by_link older legal.0 each a r filled is flow
          (λ b q e other. before s lanes b a newer older ms us all whole (Directly b a a (other, Previous filled.pool filled.link writes (q, e)) Itself) among)
          filled.link refl (legal.1.previous a filled.pool filled.link among writes))

pub come_from_first : MustEndsBefore → WritersComeFromFirst
come_from_first before m s sources runs a r filled is flow =
    option_and_then_some (λ (act : Act). slice_get act.references r) (slice_get s.actions a) filled is
    (λ act is_act at.
    let blocks = runs.legal.blocks in
    let whole : IsWhole s (events blocks) = subst (IsWhole s) (sym runs.legal.are) runs.whole in
    let ended = whole a (slice_get_within s.actions a act is_act) in
    let began = ended_started s runs.lanes blocks runs.legal.legal a (inside (events blocks) (End a) ended) in
    leads before m s sources runs.lanes [] blocks runs.legal.legal runs.legal.legal whole a began r filled is flow)
