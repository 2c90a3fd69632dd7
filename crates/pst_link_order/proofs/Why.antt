-- Why an action comes behind what its references name.
use Rattle.std.proofs.Common.{◌≡◌, ◌≢◌, ◌⊎◌, ℕ, ◌<◌, List, [], ◌∷◌, ◌++◌, length, Some, refl, sym, subst, inl, inr, ⊎_elim, All}
use Rattle.std.specs.Prelude.{slice_get, IsTrue, false}
use Rattle.std.proofs.lemmas.List.Elements.{All-nil, All-cons, All-append}
use Rattle.std.proofs.lemmas.Option.{option_and_then_some, slice_get_within, get_or_from_slice_get}
use Rattle.pst_scen.specs.declared.act.Act.{Act}
use Rattle.pst_scen.specs.declared.act.Filled.{Filled}
use Rattle.pst_scen.specs.declared.act.Flow.{Flow}
use Rattle.pst_scen.specs.declared.act.Flow.TheVariants.{BufferIn, BufferOut, StreamIn, StreamOut, StateIn, StateOut}
use Rattle.pst_scen.specs.declared.act.Link.{Link}
use Rattle.pst_scen.specs.declared.act.Link.TheVariants as link
use Rattle.pst_scen.specs.declared.scenario.Scenario.{Scenario}
use Rattle.pst_scen.specs.Scenarios.{reference_at}
use Rattle.pst_scen.specs.Flows.{Refers, FromFirst, Writes, LeadsTo}
use Rattle.pst_scen.specs.Conflicts.{Uses}
use Rattle.pst_built.specs.SoFar.{Buffer, Source, Previous, Replaced}
use Rattle.pst_order_ahead.specs.Ahead.{Takes, MustAhead, Directly, AfterFirst, BeforeSource, AfterTaker}
use Rattle.pst_scen.specs.Plan.{Entries}
use Rattle.pst_scen.specs.Rows.{Has}
use Rattle.pst_link_order.specs.declared.takes.Take.{Take}
use Rattle.pst_link_order.specs.declared.takes.Writer.{Writer}
use Rattle.pst_link_order.specs.Reasons.{IsKindOf, IsWhy}
use Rattle.pst_link_order.specs.Takes.{IsTake, IsWriter, ComesBefore, IsAheadBy}

pub all_at : {X : Type 0} (P : X → Type 0) (xs : List X) (k : ℕ) (x : X) → All P xs → slice_get xs k ≡ Some x → P x
all_at P xs k x all is = subst P (get_or_from_slice_get xs k x x is) (all k x (slice_get_within xs k x is))

pub all_more : {X : Type 0} (P : X → Type 0) (xs : List X) (x : X) → All P xs → P x → All P (xs ++ x ∷ [])
all_more P xs x all one = All-append P xs (x ∷ []) all (All-cons P x [] one (All-nil P))

pub no_true : IsTrue false → ⊥
no_true e = cc

pub refers_as : (s : Scenario) (a r : ℕ) (f : Filled) (flow : Flow) (to : Link) → reference_at s.actions a r ≡ Some f → f.flow ≡ flow → f.link ≡ to → Refers s a flow f.pool to
refers_as s a r f flow to is of_flow linked =
    option_and_then_some (λ (act : Act). slice_get act.references r) (slice_get s.actions a) f is
    (λ act is_act at. record { act = act; reference = r; filled = f; is_act = is_act; is = at; of_flow = of_flow; of_pool = refl; linked = linked })

-- the action uses the pool
pub used : (s : Scenario) (a r : ℕ) (f : Filled) → reference_at s.actions a r ≡ Some f → (f.flow ≡ StateIn) ⊎ (f.flow ≡ StateOut) → Uses s a f.pool
used s a r f is kind = (f.link, ⊎_elim (λ e. inl (refers_as s a r f StateIn f.link is e refl)) (λ e. inr (refers_as s a r f StateOut f.link is e refl)) kind)

pub named : (s : Scenario) (a r other : ℕ) (f : Filled) (kind : Flow) → reference_at s.actions a r ≡ Some f → other ≢ a → LeadsTo f.link other → IsKindOf f.flow kind → IsWhy s a other kind
named s a r other f kind is different (q, e) of_kind = by f.flow refl of_kind
  where
    by : (flow : Flow) → f.flow ≡ flow → IsKindOf flow kind → IsWhy s a other kind
    by BufferIn same k =
        subst (IsWhy s a other) (sym k) (Directly other a (different, Buffer (record { pool = f.pool; output = q; input = refers_as s a r f BufferIn (link.Act other q) is same e })))
    by BufferOut same k = absurd k
    by StreamIn same k = subst (IsWhy s a other) (sym k) (FromFirst f.pool q StreamIn (inl refl) (refers_as s a r f StreamIn (link.Act other q) is same e))
    by StreamOut same k = subst (IsWhy s a other) (sym k) (FromFirst f.pool q StreamOut (inr refl) (refers_as s a r f StreamOut (link.Act other q) is same e))
    by StateIn same k = subst (IsWhy s a other) (sym k) (Directly other a (different, Source f.pool (link.Act other q) (refers_as s a r f StateIn (link.Act other q) is same e) (q, refl)))
    by StateOut same k = subst (IsWhy s a other) (sym k) (Directly other a (different, Previous f.pool (link.Act other q) (refers_as s a r f StateOut (link.Act other q) is same e) (q, refl)))

pub taken : (s : Scenario) (take : Take) (a r : ℕ) (f : Filled) → IsTake s take → reference_at s.actions a r ≡ Some f → f.flow ≡ StateOut → ComesBefore take f a → MustAhead s take.act a
taken s take a r f is at flow before =
    ⊎_elim
    (λ first. AfterFirst take.act a take.pool f.link before.different (subst (Takes s take.act take.pool) first is.takes)
    (subst (λ pool. Writes s a pool f.link) (sym before.pool) (refers_as s a r f StateOut f.link at flow refl)))
    (λ same. Directly take.act a (
      before.different,
      Replaced take.pool take.source is.some (is.reads same.0)
          (subst (λ pool. Writes s a pool take.source) (sym before.pool) (refers_as s a r f StateOut take.source at flow (sym same.1))),
    ))
    before.why

-- ---- what the chain of writers implies

module _ (s : Scenario) (p : Entries) (plan : IsAheadBy s p) (take : Take) (is : IsTake s take) (source : ℕ) (leads : LeadsTo take.source source) (writer : Writer) (writes : IsWriter s writer) (pool : take.pool ≡ writer.pool) where
  here : Writes s writer.act take.pool writes.writes.0
  here = subst (λ q. Writes s writer.act q writes.writes.0) (sym pool) writes.writes.1

  pub earlier : writer.act ≢ source → Has p.must writer.act take.act → MustAhead s writer.act source
  earlier different has =
      BeforeSource writer.act source take.act take.pool leads.0 writes.writes.0 different (subst (Takes s take.act take.pool) leads.1 is.takes) here (plan.must writer.act take.act writes.below is.below has)

  pub later : take.act ≢ writer.act → source < length s.actions → Has p.must source writer.act → MustAhead s take.act writer.act
  later different below has =
      AfterTaker take.act writer.act source take.pool leads.0 writes.writes.0 different (subst (Takes s take.act take.pool) leads.1 is.takes) here (plan.must source writer.act below writes.below has)
