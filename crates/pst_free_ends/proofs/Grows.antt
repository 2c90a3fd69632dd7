-- The references of new actions.
use Rattle.std.proofs.Common.{◌≡◌, ℕ, ◌+◌, ◌≤◌, List, [], ◌∷◌, ◌++◌, map, length, drop, Bool, true, false, not, ◌&&◌, ◌||◌, nat_eq, if◌then◌else◌, Option, Some, None, refl, sym, ap, ◌∙◌, arith, length-append}
use Rattle.std.specs.Prelude.{slice_get}
use Rattle.std.specs.List.{enumerate_from, filter, list_any}
use Rattle.std.proofs.lemmas.Bool.{false≢true}
use Rattle.std.proofs.lemmas.List.{append-nil, map-append, drop_at}
use Rattle.std.proofs.lemmas.List.Elements.{filter-append}
use Rattle.std.proofs.lemmas.List.Folds.{list_any-append}
use Rattle.pst_model.specs.declared.action.Reference.{Reference}
use Rattle.pst_model.specs.ModelTree.{ModelTree, ActionTree}
use Rattle.pst_scen.specs.declared.act.Act.{Act}
use Rattle.pst_scen.specs.declared.act.Filled.{Filled}
use Rattle.pst_scen.specs.declared.act.Flow.{Flow}
use Rattle.pst_scen.specs.declared.act.Flow.TheVariants.{BufferIn, BufferOut, StreamIn, StreamOut, StateIn, StateOut}
use Rattle.pst_scen.specs.declared.act.Link.{Link}
use Rattle.pst_scen.specs.declared.act.Link.TheVariants as link
use Rattle.pst_legal.specs.Types.{type_of}
use Rattle.pst_legal.specs.Growing.{open_reference, open_references}
use Rattle.pst_legal.specs.SupplyReading.{Spot as Read, Source, Initially, From, New, spots, is_stream, is_writer, is_open, is_previous, same_link, put_link, linked_to}
use Rattle.pst_pool_sources.specs.declared.ends.SourceEnds.{SourceEnds}
use Rattle.pst_pool_sources.specs.declared.sources.PoolSources.{PoolSources}
use Rattle.pst_pool_sources.specs.Offers.{offers, end_of, may_serve, fitting, free_ends, fitting_from, ends_in, ends_at, room_in, room_at, keeps, count_from, but_last}
use Rattle.pst_pool_sources.proofs.Lists.{from_is, but_appended, length-fitting_from}
use Rattle.pst_pool_sources.proofs.Links.{relinked_behind}
use Rattle.pst_open_ends.specs.declared.spot.Spot.{Spot}
use Rattle.pst_open_ends.specs.declared.links.Relinked.{Relinked}
use Rattle.pst_open_ends.specs.declared.links.Change.{Change}
use Rattle.pst_open_ends.specs.Spots.{read_spot, spots_of, spots_from, spot_at}
use Rattle.pst_open_ends.specs.Options.{link_of}
use Rattle.pst_open_ends.specs.Changes.{opened, far_unlinked, ends_undone, undone, made_by, supplied_acts}
use Rattle.pst_open_ends.proofs.Lookups.{Each, each_append}
use Rattle.pst_free_ends.specs.Steps.{near_of, IsTurn, IsStep, target_of, linked_by, NoneAhead}
use Rattle.pst_free_ends.proofs.Each.{each_so, none_passes, and_always, and_never, or_never, picks_same}
use Rattle.pst_free_ends.proofs.Spots.{at, spots_more, spot_of_more}

-- ---- actions that aren't linked

abbrev pub AreLoose : List Act → Type 0
AreLoose acts = Each (λ (act : Act). Each (λ (f : Filled). f.link ≡ link.Nothing) act.references) acts

open_loose : (m : ModelTree) (action instance k : ℕ) (references : List Reference) → Each (λ (f : Filled). f.link ≡ link.Nothing) (map (open_reference m action instance) (enumerate_from k references))
open_loose m action instance k [] = tt
open_loose m action instance k (r ∷ references) = (refl, open_loose m action instance (k + 1) references)

type_loose : (m : ModelTree) (action instance : ℕ) (type : Option ActionTree) → Each (λ (f : Filled). f.link ≡ link.Nothing) (open_references m action instance type)
type_loose m action instance None = tt
type_loose m action instance (Some type) = open_loose m action instance 0 type.references

pub opened_loose : (m : ModelTree) (leaves : List Act) → AreLoose (map (opened m) leaves)
opened_loose m [] = tt
opened_loose m (x ∷ leaves) = (type_loose m x.action x.instance (type_of m x.action), opened_loose m leaves)

made_loose : (m : ModelTree) (source : Source) → AreLoose (made_by m source)
made_loose m Initially = tt
made_loose m (From b q) = tt
made_loose m (New action instance q) = (type_loose m action instance (type_of m action), tt)

-- ---- their references

abbrev IsLoose : ℕ → Read → Type 0
IsLoose k s = (s.filled.link ≡ link.Nothing) × (k ≤ s.act)

loose_of : (k act m : ℕ) (fs : List Filled) → k ≤ act → Each (λ (f : Filled). f.link ≡ link.Nothing) fs → Each (IsLoose k) (spots_of act m fs)
loose_of k act m [] l h = tt
loose_of k act m (f ∷ fs) l h = ((h.0, l), loose_of k act (m + 1) fs l h.1)

loose_from : (k n : ℕ) (ys : List Act) → k ≤ n → AreLoose ys → Each (IsLoose k) (spots_from n ys)
loose_from k n [] l h = tt
loose_from k n (y ∷ ys) l h = each_append (IsLoose k) (spots_of n 0 y.references) (spots_from (n + 1) ys) (loose_of k n 0 y.references l h.0) (loose_from k (n + 1) ys (omega arith) h.1)

module _ (old ys : List Act) (loose : AreLoose ys) where
  abbrev more : List Read
  more = spots_from (length old) ys

  all_spots : spots (old ++ ys) ≡ spots old ++ more
  all_spots = let z : 0 + length old ≡ length old = omega arith in spots_more 0 old ys ∙ ap (λ n. spots old ++ spots_from n ys) z

  all_loose : Each (IsLoose (length old)) more
  all_loose = loose_from (length old) (length old) ys (omega arith) loose

  abbrev names : ℕ → Link → Read → Bool
  names p x s = is_writer s.filled.flow && (nat_eq s.filled.pool p && same_link s.filled.link x)

  pub previous_more : (p : ℕ) (x : Link) → same_link link.Nothing x ≡ false → is_previous (old ++ ys) p x ≡ is_previous old p x
  previous_more p x nx =
      ap (list_any (names p x)) all_spots
      ∙ list_any-append (names p x) (spots old) more
      ∙ ap (λ b. is_previous old p x || b) (none_passes (names p x) more (each_so (IsLoose (length old)) (λ s. names p x s ≡ false) more
      (λ s h. ap (λ b. is_writer s.filled.flow && (nat_eq s.filled.pool p && b)) (ap (λ k. same_link k x) h.0 ∙ nx) ∙ ap (λ b. is_writer s.filled.flow && b) (and_never (nat_eq s.filled.pool p)) ∙ and_never (is_writer s.filled.flow)) all_loose))
      ∙ or_never (is_previous old p x)

  -- they come last, and are free
  pub free_more : NoneAhead old → (n : Flow) (p : ℕ) → free_ends n p (old ++ ys) ≡ free_ends n p old ++ fitting_from n p (length old) ys
  free_more ahead n p =
      ap (λ l. map end_of (filter (may_serve n p (old ++ ys)) l)) all_spots
      ∙ ap (map end_of) (filter-append (may_serve n p (old ++ ys)) (spots old) more)
      ∙ map-append end_of (filter (may_serve n p (old ++ ys)) (spots old)) (filter (may_serve n p (old ++ ys)) more)
      ∙ ap (λ l. map end_of l ++ map end_of (filter (may_serve n p (old ++ ys)) more)) (picks_same (may_serve n p (old ++ ys)) (may_serve n p old) (spots old) (same_all (spots old)))
      ∙ ap (λ l. free_ends n p old ++ map end_of l) (picks_same (may_serve n p (old ++ ys)) (λ s. offers n p s.filled) more (each_so (IsLoose (length old)) (λ s. may_serve n p (old ++ ys) s ≡ offers n p s.filled) more free all_loose))
      ∙ ap (λ l. free_ends n p old ++ l) (from_is n p (length old) ys)
    where
      same : (s : Read) → may_serve n p (old ++ ys) s ≡ may_serve n p old s
      same s = ap (λ b. offers n p s.filled && (if is_stream n then is_open s else not (is_writer n && b))) (previous_more p (link.Act s.act s.reference) refl)

      same_all : (xs : List Read) → Each (λ s. may_serve n p (old ++ ys) s ≡ may_serve n p old s) xs
      same_all [] = tt
      same_all (x ∷ xs) = (same x, same_all xs)

      chosen : (b : Bool) → (if b then true else true) ≡ true
      chosen true = refl
      chosen false = refl

      free : (s : Read) → IsLoose (length old) s → may_serve n p (old ++ ys) s ≡ offers n p s.filled
      free s h =
          same s
          ∙ ap (λ k. offers n p s.filled && (if is_stream n then same_link k link.Nothing else not (is_writer n && is_previous old p (link.Act s.act s.reference)))) h.0
          ∙ ap (λ b. offers n p s.filled && (if is_stream n then true else not (is_writer n && b))) (ahead p (end_of s) h.1)
          ∙ ap (λ b. offers n p s.filled && (if is_stream n then true else not b)) (and_never (is_writer n))
          ∙ ap (λ b. offers n p s.filled && b) (chosen (is_stream n))
          ∙ and_always (offers n p s.filled)

-- ---- no action is linked

none_ahead : NoneAhead []
none_ahead p e l = refl

pub loose_free : (acts : List Act) → AreLoose acts → (n : Flow) (p : ℕ) → fitting n p acts ≡ free_ends n p acts
loose_free acts loose n p = from_is n p 0 acts ∙ sym (free_more [] acts loose none_ahead n p)

pub loose_previous : (acts : List Act) → AreLoose acts → (p : ℕ) (x : Link) → same_link link.Nothing x ≡ false → is_previous acts p x ≡ false
loose_previous acts loose p x nx = previous_more [] acts loose p x nx

-- ---- behind a change

module _ (n : Flow) (p : ℕ) where
  far_behind : (count : ℕ) (far : Option Relinked) (acts : List Act) → fitting_from n p count (drop count (far_unlinked far acts)) ≡ fitting_from n p count (drop count acts)
  far_behind count None acts = refl
  far_behind count (Some end) acts = relinked_behind n p count end.act end.reference end.was acts

  undone_behind : (change : Change) (acts : List Act) → fitting_from n p change.count (drop change.count (ends_undone change.ends acts)) ≡ fitting_from n p change.count (drop change.count acts)
  undone_behind change acts =
      relinked_behind n p change.count change.ends.need.act change.ends.need.reference change.ends.need.was (far_unlinked change.ends.far acts)
      ∙ far_behind change.count change.ends.far acts

  -- without the references of the new action
  pub without_more : (change : Change) (acts : List Act) → but_last (count_from n p (drop change.count acts)) (free_ends n p (undone change acts) ++ fitting_from n p change.count (drop change.count acts)) ≡ free_ends n p (undone change acts)
  without_more change acts = but_appended (count_from n p (drop change.count acts)) (free_ends n p (undone change acts)) (fitting_from n p change.count (drop change.count acts)) (length-fitting_from n p change.count (drop change.count acts))

module _ (need : Spot) (source : Source) (change : Change) (acts : List Act) (step : IsStep need source change acts) where
  abbrev old : List Act
  old = undone change acts

  abbrev pub mid : List Act
  mid = ends_undone change.ends acts

  abbrev made : List Act
  made = made_by step.model source

  made_is : drop change.count mid ≡ made
  made_is =
      ap (drop change.count) step.supplies.before
      ∙ drop_at old made change.count (sym step.supplies.count)

  pub mid_more : (n : Flow) (p : ℕ) → free_ends n p mid ≡ free_ends n p old ++ fitting_from n p change.count (drop change.count acts)
  mid_more n p =
      ap (free_ends n p) step.supplies.before
      ∙ free_more old made (made_loose step.model source) step.ahead n p
      ∙ ap (λ k. free_ends n p old ++ fitting_from n p k made) (sym step.supplies.count)
      ∙ ap (λ l. free_ends n p old ++ fitting_from n p change.count l) (sym made_is)
      ∙ ap (λ l. free_ends n p old ++ l) (undone_behind n p change acts)

  mid_previous : (p : ℕ) (x : Link) → same_link link.Nothing x ≡ false → is_previous mid p x ≡ is_previous old p x
  mid_previous p x nx = ap (λ l. is_previous l p x) step.supplies.before ∙ previous_more old made (made_loose step.model source) p x nx

  pub mid_begun : (p : ℕ) → is_previous mid p link.Initial ≡ is_previous old p link.Initial
  mid_begun p = mid_previous p link.Initial refl

  pub mid_ahead : NoneAhead mid
  mid_ahead p e l =
      let a = ap (λ (l : List Act). length l) step.supplies.before in
      let b = length-append old made in
      mid_previous p (link_of (Some e)) refl ∙ step.ahead p e (omega arith)

  pub mid_turn : IsTurn need mid
  mid_turn = record {
    spot = step.turn.spot;
    is = ap (λ l. spot_at l (near_of need)) step.supplies.before ∙ spot_of_more old made (near_of need) step.turn.spot step.turn.is;
    among =
        ap (λ l. list_any (at (near_of need)) (spots l)) step.supplies.before
        ∙ ap (list_any (at (near_of need))) (all_spots old made (made_loose step.model source))
        ∙ list_any-append (at (near_of need)) (spots old) (spots_from (length old) made)
        ∙ ap (λ b. b || list_any (at (near_of need)) (spots_from (length old) made)) step.turn.among;
    flow = step.turn.flow;
    pool = step.turn.pool;
    free = step.turn.free;
  }

  pub mid_linked : linked_by (read_spot need) (target_of source change.count) mid ≡ acts
  mid_linked =
      ap (λ k. linked_by (read_spot need) (target_of source k) mid) step.supplies.count
      ∙ ap (linked_by (read_spot need) (target_of source (length old))) step.supplies.before
      ∙ go source
      ∙ sym step.supplies.supplied
    where
      go : (s : Source) → linked_by (read_spot need) (target_of s (length old)) (old ++ made_by step.model s) ≡ supplied_acts step.model old (read_spot need) s
      go Initially = ap (put_link need.act need.reference link.Initial) (append-nil old)
      go (From b q) = ap (linked_to (read_spot need) b q) (append-nil old)
      go (New action instance q) = refl

-- ---- memory

-- there is memory for what stands there
pub fits : (sources : PoolSources) (n : Flow) (p : ℕ) → keeps n ≡ true → length (ends_at n p sources) ≤ room_at n p sources
fits sources n p k = go (slice_get sources.pools.items p) n k
  where
    go : (o : Option SourceEnds) (n : Flow) → keeps n ≡ true → length (ends_in n o) ≤ room_in n o
    go None n k = omega arith
    go (Some row) BufferIn k = absurd (false≢true k)
    go (Some row) BufferOut k = absurd (false≢true k)
    go (Some row) StreamIn k = let a = row.stream_outputs.ok.0 in let b = row.stream_outputs.ok.1 in omega arith
    go (Some row) StreamOut k = let a = row.stream_inputs.ok.0 in let b = row.stream_inputs.ok.1 in omega arith
    go (Some row) StateIn k = absurd (false≢true k)
    go (Some row) StateOut k = let a = row.free_writers.ok.0 in let b = row.free_writers.ok.1 in omega arith
