-- The references of actions as a list, and the sources among them.
use Rattle.std.proofs.Common.{◌≡◌, ℕ, List, [], ◌∷◌, ◌++◌, map, Bool, true, false, not, ◌&&◌, nat_eq, Option, Some, None, refl, ap, ◌∙◌, subst, ⊎_elim}
use Rattle.std.specs.Prelude.{slice_get, flat_map}
use Rattle.std.specs.List.{enumerate_from, filter}
use Rattle.std.specs.Option.{option_and_then}
use Rattle.std.proofs.lemmas.Option.{option_and_then_some}
use Rattle.std.proofs.lemmas.Bool.{eq-eqb, and_parts, and_from, both_ways}
use Rattle.pst_model.specs.ModelTree.{ModelTree, ActionTree}
use Rattle.pst_scen.specs.declared.act.Act.{Act}
use Rattle.pst_scen.specs.declared.act.Filled.{Filled}
use Rattle.pst_scen.specs.declared.act.Flow.TheVariants.{StateOut}
use Rattle.pst_scen.specs.declared.act.Link.{Link}
use Rattle.pst_scen.specs.declared.act.Link.TheVariants as link
use Rattle.pst_scen.specs.declared.scenario.Scenario.{Scenario}
use Rattle.pst_scen.specs.Scenarios.{reference_at}
use Rattle.pst_legal.specs.Types.{type_of, action_instances}
use Rattle.pst_legal.specs.Growing.{open_act}
use Rattle.pst_legal.specs.SupplyReading.{Spot, spots_in, spots, same_link, is_open, fixed_for, Source, Initially, From, New, is_state, is_writer, is_previous, initial_sources, fits, is_candidate, source_of, old_sources, sources_in, is_inferable, sources_of_type, may_infer, new_sources, free_sources, fixed_sources, sources_by, sources}
use Rattle.pst_built.proofs.Bares.{Bare, bares, bare_at, bare_of}
use Rattle.pst_built.proofs.Members.{In, in_if, in_append, in_map, to_map, in_flat_map, to_flat_map, in_numbered, to_numbered, in_filter, none_any}

-- ---- references of actions

pub at_act : (acts : List Act) (a r : ℕ) (act : Act) (filled : Filled) → slice_get acts a ≡ Some act → slice_get act.references r ≡ Some filled → reference_at acts a r ≡ Some filled
at_act acts a r act filled there has = ap (λ v. option_and_then (λ x. slice_get x.references r) v) there ∙ has

pub spot_is : (acts : List Act) (spot : Spot) → In spot (spots acts) → reference_at acts spot.act spot.reference ≡ Some spot.filled
spot_is acts spot has =
    let f = in_flat_map spots_in (enumerate_from 0 acts) spot has in
    let e = f.0 in
    let g = in_map (λ x. record { act = e.0; reference = x.0; filled = x.1 }) (enumerate_from 0 e.1.references) spot f.2 in
    let x = g.0 in
    subst (λ (v : Spot). reference_at acts v.act v.reference ≡ Some v.filled) g.2
    (at_act acts e.0 x.0 e.1 x.1 (in_numbered acts e f.1) (in_numbered e.1.references x g.1))

pub to_spot : (acts : List Act) (a r : ℕ) (filled : Filled) → reference_at acts a r ≡ Some filled → In (record { act = a; reference = r; filled = filled }) (spots acts)
to_spot acts a r filled is =
    option_and_then_some (λ x. slice_get x.references r) (slice_get acts a) filled is
    (λ act there has.
    to_flat_map spots_in (enumerate_from 0 acts) (a, act) (record { act = a; reference = r; filled = filled }) (to_numbered acts a act there)
    (to_map (λ x. record { act = a; reference = x.0; filled = x.1 }) (enumerate_from 0 act.references) (r, filled) (to_numbered act.references r filled has)))

-- ---- previous writers

pub same_link_self : (l : Link) → same_link l l ≡ true
same_link_self link.Nothing = refl
same_link_self link.Initial = refl
same_link_self (link.Act a r) = and_from (nat_eq a a) (nat_eq r r) (eq-eqb a a refl) (eq-eqb r r refl)

-- no output to the pool has that previous writer
abbrev pub IsFresh : List (List Bare) → ℕ → Link → Type 0
IsFresh rows pool to = (b q : ℕ) (y : Bare) → bare_at rows b q ≡ Some y → y.flow ≡ StateOut → y.pool ≡ pool → y.link ≡ to → ⊥

by_filled : (acts : List Act) (pool : ℕ) (to : Link) → is_previous acts pool to ≡ false → (b q : ℕ) (f : Filled) → reference_at acts b q ≡ Some f → f.flow ≡ StateOut → f.pool ≡ pool → f.link ≡ to → ⊥
by_filled acts pool to none b q f is flow same linked =
    both_ways _
    (none_any (λ spot. is_writer spot.filled.flow && (nat_eq spot.filled.pool pool && same_link spot.filled.link to)) (spots acts) (record { act = b; reference = q; filled = f }) none (to_spot acts b q f is))
    (and_from (is_writer f.flow) (nat_eq f.pool pool && same_link f.link to) (ap is_writer flow)
    (and_from (nat_eq f.pool pool) (same_link f.link to) (eq-eqb f.pool pool same) (subst (λ l. same_link f.link l ≡ true) linked (same_link_self f.link))))

pub fresh : (acts : List Act) (pool : ℕ) (to : Link) → is_previous acts pool to ≡ false → IsFresh (bares acts) pool to
fresh acts pool to none b q y at flow same linked =
    let f = bare_of acts b q y at in
    by_filled acts pool to none b q f.0 f.1 (ap (λ (v : Bare). v.flow) f.2 ∙ flow) (ap (λ (v : Bare). v.pool) f.2 ∙ same) (ap (λ (v : Bare). v.link) f.2 ∙ linked)

-- ---- sources

-- an action that may be inferred, of which the reference fits
pub record IsNew (m : ModelTree) (s : Scenario) (need : Spot) (action instance q : ℕ) : Type 0 where
  pub may : may_infer s ≡ true
  pub type : ActionTree
  pub is : type_of m action ≡ Some type
  pub inferable : is_inferable type type.content ≡ true
  pub inside : In instance (action_instances m (Some type) None)
  pub filled : Filled
  pub at : slice_get (open_act m action instance None).references q ≡ Some filled
  pub fitting : fits need.filled filled ≡ true

-- what is known of a source of a need
abbrev pub Suits : ModelTree → Scenario → Spot → Source → Type 0
Suits m s need Initially = (is_state need.filled.flow && not (is_writer need.filled.flow && is_previous s.actions need.filled.pool link.Initial)) ≡ true
Suits m s need (From b q) = (filled : Filled) × (reference_at s.actions b q ≡ Some filled) × (is_candidate s.actions need (record { act = b; reference = q; filled = filled }) ≡ true)
Suits m s need (New action instance q) =
    IsNew m s need action instance q

initial_suits : (m : ModelTree) (s : Scenario) (need : Spot) (source : Source) → In source (initial_sources s.actions need.filled) → Suits m s need source
initial_suits m s need source has =
    let i = in_if (is_state need.filled.flow && not (is_writer need.filled.flow && is_previous s.actions need.filled.pool link.Initial)) (Initially ∷ []) source has in
    ⊎_elim (λ e. subst (Suits m s need) e i.0) (λ none. absurd none) i.1

old_suits : (m : ModelTree) (s : Scenario) (need : Spot) (source : Source) → In source (old_sources s.actions need) → Suits m s need source
old_suits m s need source has =
    let i = in_map source_of (filter (is_candidate s.actions need) (spots s.actions)) source has in
    let f = in_filter (is_candidate s.actions need) (spots s.actions) i.0 i.1 in
    subst (Suits m s need) i.2 (i.0.filled, spot_is s.actions i.0 f.0, f.1)

by_type : (m : ModelTree) (s : Scenario) (need : Spot) → may_infer s ≡ true → (source : Source) (e : ℕ × ActionTree) → type_of m e.0 ≡ Some e.1 → In source (sources_of_type m need.filled e) → Suits m s need source
by_type m s need may source e is has =
    let i = in_if (is_inferable e.1 e.1.content) (flat_map (sources_in m need.filled e.0) (action_instances m (Some e.1) None)) source has in
    let f = in_flat_map (sources_in m need.filled e.0) (action_instances m (Some e.1) None) source i.1 in
    let references = (open_act m e.0 f.0 None).references in
    let g = in_map (λ x. New e.0 f.0 x.0) (filter (λ x. fits need.filled x.1) (enumerate_from 0 references)) source f.2 in
    let h = in_filter (λ x. fits need.filled x.1) (enumerate_from 0 references) g.0 g.1 in
    subst (Suits m s need) g.2 (record {
      may = may;
      type = e.1;
      is = is;
      inferable = i.0;
      inside = f.1;
      filled = g.0.1;
      at = in_numbered references g.0 h.0;
      fitting = h.1;
    })

new_suits : (m : ModelTree) (s : Scenario) (need : Spot) (source : Source) → In source (new_sources m s need.filled) → Suits m s need source
new_suits m s need source has =
    let i = in_if (may_infer s) (flat_map (sources_of_type m need.filled) (enumerate_from 0 m.actions)) source has in
    let f = in_flat_map (sources_of_type m need.filled) (enumerate_from 0 m.actions) source i.1 in
    by_type m s need i.0 source f.0 (in_numbered m.actions f.0 f.1) f.2

fixed_suits : (m : ModelTree) (s : Scenario) (need : Spot) (bound : ℕ × ℕ) (source : Source) → In source (fixed_sources s need bound) → Suits m s need source
fixed_suits m s need bound source has =
    let test : Spot → Bool = λ spot. nat_eq spot.act bound.0 && (nat_eq spot.reference bound.1 && is_candidate s.actions need spot) in
    let o = in_if (is_open need) (map source_of (filter test (spots s.actions))) source has in
    let i = in_map source_of (filter test (spots s.actions)) source o.1 in
    let f = in_filter test (spots s.actions) i.0 i.1 in
    let p = and_parts (nat_eq i.0.act bound.0) (nat_eq i.0.reference bound.1 && is_candidate s.actions need i.0) f.1 in
    let q = and_parts (nat_eq i.0.reference bound.1) (is_candidate s.actions need i.0) p.1 in
    subst (Suits m s need) i.2 (i.0.filled, spot_is s.actions i.0 f.0, q.1)

free_suits : (m : ModelTree) (s : Scenario) (need : Spot) (source : Source) → In source (free_sources m s need) → Suits m s need source
free_suits m s need source has =
    ⊎_elim (initial_suits m s need source)
    (λ more. ⊎_elim (old_suits m s need source) (new_suits m s need source) (in_append (old_sources s.actions need) (new_sources m s need.filled) source more))
    (in_append (initial_sources s.actions need.filled) (old_sources s.actions need ++ new_sources m s need.filled) source has)

by_bind : (m : ModelTree) (s : Scenario) (need : Spot) (bound : Option (ℕ × ℕ)) (source : Source) → In source (sources_by m s need bound) → Suits m s need source
by_bind m s need None source has = free_suits m s need source has
by_bind m s need (Some bound) source has = fixed_suits m s need bound source has

pub suits : (m : ModelTree) (s : Scenario) (need : Spot) (source : Source) → In source (sources m s need) → Suits m s need source
suits m s need source has = by_bind m s need (fixed_for m s need) source has
