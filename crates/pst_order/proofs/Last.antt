-- The last writer that ended.
use Rattle.std.proofs.Common.{◌≡◌, ℕ, List, [], ◌∷◌, ◌++◌, get_or, Option, Some, None, Bool, true, false, ◌&&◌, refl, sym, ap, ◌∙◌, subst, ⊎_elim}
use Rattle.std.specs.Prelude.{nat_eq, slice_get}
use Rattle.std.specs.List.{list_any}
use Rattle.std.proofs.lemmas.Bool.{and_parts, and_from, eqb-true, eq-eqb, cases_Bool, cond-true, cond-false}
use Rattle.std.proofs.lemmas.List.Folds.{list_any_at, Any-from_list_any}
use Rattle.std.proofs.lemmas.Option.{slice_get_within, slice_get-get_or, get_or_from_slice_get}
use Rattle.pst_scen.specs.declared.act.Act.{Act}
use Rattle.pst_scen.specs.declared.act.Filled.{Filled}
use Rattle.pst_scen.specs.declared.act.Flow.{Flow}
use Rattle.pst_scen.specs.declared.act.Flow.TheVariants.{BufferIn, BufferOut, StreamIn, StreamOut, StateIn, StateOut}
use Rattle.pst_scen.specs.declared.act.Link.{Link}
use Rattle.pst_scen.specs.declared.scenario.Scenario.{Scenario}
use Rattle.pst_scen.specs.declared.event.Event.{Event}
use Rattle.pst_scen.specs.declared.event.Event.TheVariants.{End}
use Rattle.pst_scen.specs.Flows.{Writes}
use Rattle.pst_scen.specs.Trace.{is_state_output, writes_pool, last_after, last_from, last_writer, starts_of}

abbrev test : ℕ → Filled → Bool
test pool filled = is_state_output filled.flow && nat_eq filled.pool pool

flow_is : (flow : Flow) → is_state_output flow ≡ true → flow ≡ StateOut
flow_is StateOut e = refl
flow_is StateIn e = cc
flow_is BufferIn e = cc
flow_is BufferOut e = cc
flow_is StreamIn e = cc
flow_is StreamOut e = cc

is_flow : (flow : Flow) → flow ≡ StateOut → is_state_output flow ≡ true
is_flow flow e = subst (λ f. is_state_output f ≡ true) (sym e) refl

writes_true : (s : Scenario) (a pool : ℕ) (link : Link) → Writes s a pool link → writes_pool (slice_get s.actions a) pool ≡ true
writes_true s a pool link w =
    let tested : test pool w.filled ≡ true = and_from (is_state_output w.filled.flow) (nat_eq w.filled.pool pool) (is_flow w.filled.flow w.of_flow) (eq-eqb w.filled.pool pool w.of_pool) in
    let at : get_or w.act.references w.reference w.filled ≡ w.filled = get_or_from_slice_get w.act.references w.reference w.filled w.filled w.is in
    let found : list_any (test pool) w.act.references ≡ true =
    list_any_at (test pool) w.act.references w.reference w.filled (slice_get_within w.act.references w.reference w.filled w.is) (subst (λ f. test pool f ≡ true) (sym at) tested) in
    subst (λ (o : Option Act). writes_pool o pool ≡ true) (sym w.is_act) found

-- an action writes the pool, or doesn't
pub data Writing (s : Scenario) (a pool : ℕ) : Type 0 where
  ItDoes : (link : Link) → Writes s a pool link → writes_pool (slice_get s.actions a) pool ≡ true → Writing s a pool
  ItDoesNot : ((link : Link) → Writes s a pool link → ⊥) → writes_pool (slice_get s.actions a) pool ≡ false → Writing s a pool

of_true : (s : Scenario) (a pool : ℕ) (o : Option Act) → slice_get s.actions a ≡ o → writes_pool o pool ≡ true → (link : Link) × Writes s a pool link
of_true s a pool None is t = cc
of_true s a pool (Some act) is t =
    let k = Any-from_list_any (test pool) act.references t in
    let p = and_parts (is_state_output k.1.flow) (nat_eq k.1.pool pool) k.4 in (
      k.1.link,
      record {
        act = act;
        reference = k.0;
        filled = k.1;
        is_act = is;
        is = slice_get-get_or act.references k.0 k.1 k.2 ∙ ap Some k.3;
        of_flow = flow_is k.1.flow p.0;
        of_pool = eqb-true k.1.pool pool p.1;
        linked = refl;
      },
    )

pub writing : (s : Scenario) (a pool : ℕ) → Writing s a pool
writing s a pool =
    ⊎_elim (λ e. let r = of_true s a pool (slice_get s.actions a) refl e in ItDoes r.0 r.1 e)
    (λ e. ItDoesNot (λ link w. let both : true ≡ false = sym (writes_true s a pool link w) ∙ e in cc) e) (cases_Bool (writes_pool (slice_get s.actions a) pool))

pub last-append : (s : Scenario) (pool : ℕ) (l : Option ℕ) (t u : List Event) → last_from s pool l (t ++ u) ≡ last_from s pool (last_from s pool l t) u
last-append s pool l [] u = refl
last-append s pool l (e ∷ t) u = last-append s pool (last_after s pool l e) t u

last_starts : (s : Scenario) (pool : ℕ) (l : Option ℕ) (ms us : List ℕ) → last_from s pool l (starts_of ms us) ≡ l
last_starts s pool l [] us = refl
last_starts s pool l (m ∷ ms) [] = refl
last_starts s pool l (m ∷ []) (u ∷ us) = refl
last_starts s pool l (m ∷ n ∷ ms) (u ∷ us) = last_starts s pool l (n ∷ ms) us

pub last_same : (s : Scenario) (pool : ℕ) (t : List Event) (ms us : List ℕ) → last_writer s pool (t ++ starts_of ms us) ≡ last_writer s pool t
last_same s pool t ms us = last-append s pool None t (starts_of ms us) ∙ last_starts s pool (last_writer s pool t) ms us

pub last_it : (s : Scenario) (pool : ℕ) (t : List Event) (a : ℕ) → writes_pool (slice_get s.actions a) pool ≡ true → last_writer s pool (t ++ End a ∷ []) ≡ Some a
last_it s pool t a e = last-append s pool None t (End a ∷ []) ∙ cond-true (writes_pool (slice_get s.actions a) pool) (Some a) (last_writer s pool t) e

pub last_other : (s : Scenario) (pool : ℕ) (t : List Event) (a : ℕ) → writes_pool (slice_get s.actions a) pool ≡ false → last_writer s pool (t ++ End a ∷ []) ≡ last_writer s pool t
last_other s pool t a e = last-append s pool None t (End a ∷ []) ∙ cond-false (writes_pool (slice_get s.actions a) pool) (Some a) (last_writer s pool t) e
