-- A need is linked to its source.
use Rattle.std.proofs.Common.{◌≡◌, ℕ, List, Bool, true, false, nat_eq, if◌then◌else◌, Some, refl, sym, ap, ◌∙◌, subst}
use Rattle.std.proofs.lemmas.Bool.{false≢true, eqb-true, and_parts}
use Rattle.pst_scen.specs.declared.act.Act.{Act}
use Rattle.pst_scen.specs.declared.act.Filled.{Filled}
use Rattle.pst_scen.specs.declared.act.Flow.{Flow}
use Rattle.pst_scen.specs.declared.act.Flow.TheVariants.{BufferIn, BufferOut, StreamIn, StreamOut, StateIn, StateOut}
use Rattle.pst_scen.specs.declared.act.Link.TheVariants as link
use Rattle.pst_scen.specs.Scenarios.{reference_at}
use Rattle.pst_legal.specs.Supplied.{is_need, is_source_for}
use Rattle.pst_legal.specs.SupplyReading.{Spot, is_stream, fits, put_link, linked_to}
use Rattle.pst_built.proofs.Bares.{Bare, bare, bares, bare_from, nodes_in, bares_put, nodes_put, put_bare, with_bare_link}
use Rattle.pst_built.proofs.Links.{put_at, put_still, IsSourceAt, Links, put_links}
use Rattle.pst_built.proofs.Ends.{Ends, IsOpenNeed, put_ends, pair_ends}
use Rattle.pst_built.proofs.Spots.{IsFresh}

-- a need that has no source yet
pub record IsTurn (acts : List Act) (need : Spot) : Type 0 where
  pub at : reference_at acts need.act need.reference ≡ Some need.filled
  pub unlinked : need.filled.link ≡ link.Nothing
  pub needs : is_need need.filled.flow ≡ true

pub open_need : (acts : List Act) (need : Spot) → IsTurn acts need → IsOpenNeed (bares acts) need.act need.reference (bare need.filled)
open_need acts need turn = record { is = bare_from acts need.act need.reference need.filled turn.at; unlinked = turn.unlinked; needs = turn.needs }

act_first : (b q : ℕ) → link.Act b q ≡ link.Initial → ⊥
act_first b q e = cc

first_of_act : (a r b q : ℕ) → link.Act a r ≡ link.Act b q → (a ≡ b) × (r ≡ q)
first_of_act a r b q e = (cc, cc)

-- The source of a stream's end has that end as its source too.
pub record IsOtherEnd (one other : Flow) : Type 0 where
  pub fits : is_source_for other one ≡ true
  pub needs : is_need other ≡ true
  pub no_output : other ≡ StateOut → ⊥

turned : (one other : Flow) → is_stream one ≡ true → is_source_for one other ≡ true → IsOtherEnd one other
turned StreamIn StreamOut stream fits = record { fits = refl; needs = refl; no_output = λ e. cc }
turned StreamOut StreamIn stream fits = record { fits = refl; needs = refl; no_output = λ e. cc }
turned StreamIn BufferIn stream fits = absurd (false≢true fits)
turned StreamIn BufferOut stream fits = absurd (false≢true fits)
turned StreamIn StreamIn stream fits = absurd (false≢true fits)
turned StreamIn StateIn stream fits = absurd (false≢true fits)
turned StreamIn StateOut stream fits = absurd (false≢true fits)
turned StreamOut BufferIn stream fits = absurd (false≢true fits)
turned StreamOut BufferOut stream fits = absurd (false≢true fits)
turned StreamOut StreamOut stream fits = absurd (false≢true fits)
turned StreamOut StateIn stream fits = absurd (false≢true fits)
turned StreamOut StateOut stream fits = absurd (false≢true fits)
turned BufferIn other stream fits = absurd (false≢true stream)
turned BufferOut other stream fits = absurd (false≢true stream)
turned StateIn other stream fits = absurd (false≢true stream)
turned StateOut other stream fits = absurd (false≢true stream)

-- a reference is linked to one that fits
pub record Pairs (acts : List Act) (need : Spot) (b q : ℕ) : Type 0 where
  pub turn : IsTurn acts need
  pub source : Filled
  pub is : reference_at acts b q ≡ Some source
  pub other : b ≡ need.act → ⊥
  pub fitting : fits need.filled source ≡ true
  pub unlinked : is_stream need.filled.flow ≡ true → source.link ≡ link.Nothing
  pub free : need.filled.flow ≡ StateOut → IsFresh (bares acts) need.filled.pool (link.Act b q)

pool_of : (need source : Filled) → fits need source ≡ true → (is_source_for need.flow source.flow ≡ true) × (source.pool ≡ need.pool)
pool_of need source fitting = let p = and_parts (is_source_for need.flow source.flow) (nat_eq source.pool need.pool) fitting in (p.0, eqb-true source.pool need.pool p.1)

module _ (acts : List Act) (need : Spot) (b q : ℕ) (pairs : Pairs acts need b q) (links : Links (bares acts)) where
  abbrev rows : List (List Bare)
  rows = bares acts

  abbrev x : Bare
  x = bare need.filled

  is_source : IsSourceAt rows need.act x b q
  is_source = record {
    other = pairs.other;
    source = bare pairs.source;
    is = bare_from acts b q pairs.source pairs.is;
    fits = (pool_of need.filled pairs.source pairs.fitting).0;
    pool = (pool_of need.filled pairs.source pairs.fitting).1;
  }

  once : Links (put_bare need.act need.reference (link.Act b q) rows)
  once = put_links rows need.act need.reference x (link.Act b q) links (bare_from acts need.act need.reference need.filled pairs.turn.at) (record {
    there = λ c p e. let f = first_of_act b q c p e in subst (λ v. IsSourceAt rows need.act x v p) f.0 (subst (λ w. IsSourceAt rows need.act x b w) f.1 is_source);
    fresh = pairs.free;
  })

  abbrev more : List (List Bare)
  more = put_bare need.act need.reference (link.Act b q) rows

  -- the other end of a stream
  back : is_stream need.filled.flow ≡ true → Links (put_bare b q (link.Act need.act need.reference) more)
  back stream =
      let still = put_still rows need.act need.reference (link.Act b q) b q (bare pairs.source) (bare_from acts b q pairs.source pairs.is) in
      let fit = pool_of need.filled pairs.source pairs.fitting in
      let turn = turned need.filled.flow pairs.source.flow stream fit.0 in
      let there : IsSourceAt more b still.now need.act need.reference = record {
        other = λ e. pairs.other (sym e);
        source = with_bare_link (link.Act b q) x;
        is = put_at rows need.act need.reference (link.Act b q) x (bare_from acts need.act need.reference need.filled pairs.turn.at);
        fits = subst (λ f. is_source_for f need.filled.flow ≡ true) (sym still.flow) turn.fits;
        pool = sym (still.pool ∙ fit.1);
      } in
      put_links more b q still.now (link.Act need.act need.reference) once still.is (record {
        there = λ c p e. let f = first_of_act need.act need.reference c p e in
            subst (λ v. IsSourceAt more b still.now v p) f.0 (subst (λ w. IsSourceAt more b still.now need.act w) f.1 there);
        fresh = λ flow. absurd (turn.no_output (sym still.flow ∙ flow));
      })

  by_stream : (test : Bool) → is_stream need.filled.flow ≡ test
      → Links (bares (if test then put_link b q (link.Act need.act need.reference) (put_link need.act need.reference (link.Act b q) acts) else put_link need.act need.reference (link.Act b q) acts))
  by_stream true stream =
      subst Links
      (ap (put_bare b q (link.Act need.act need.reference)) (sym (bares_put need.act need.reference (link.Act b q) acts))
      ∙ sym (bares_put b q (link.Act need.act need.reference) (put_link need.act need.reference (link.Act b q) acts))) (back stream)
  by_stream false stream = subst Links (sym (bares_put need.act need.reference (link.Act b q) acts)) once

  pub paired : Links (bares (linked_to need b q acts))
  paired = by_stream (is_stream need.filled.flow) refl

  ends_by_stream : Ends rows → (test : Bool) → is_stream need.filled.flow ≡ test
      → Ends (bares (if test then put_link b q (link.Act need.act need.reference) (put_link need.act need.reference (link.Act b q) acts) else put_link need.act need.reference (link.Act b q) acts))
  ends_by_stream ends true stream =
      let fit = pool_of need.filled pairs.source pairs.fitting in
      let turn = turned need.filled.flow pairs.source.flow stream fit.0 in
      subst Ends
      (ap (put_bare b q (link.Act need.act need.reference)) (sym (bares_put need.act need.reference (link.Act b q) acts))
      ∙ sym (bares_put b q (link.Act need.act need.reference) (put_link need.act need.reference (link.Act b q) acts)))
      (pair_ends rows need.act need.reference b q x (bare pairs.source) ends (open_need acts need pairs.turn)
      (record { is = bare_from acts b q pairs.source pairs.is; unlinked = pairs.unlinked stream; needs = turn.needs }) pairs.other)
  ends_by_stream ends false still =
      subst Ends (sym (bares_put need.act need.reference (link.Act b q) acts))
      (put_ends rows need.act need.reference x (link.Act b q) ends (open_need acts need pairs.turn) still (λ e. absurd (act_first b q e)))

  pub paired_ends : Ends rows → Ends (bares (linked_to need b q acts))
  paired_ends ends = ends_by_stream ends (is_stream need.filled.flow) refl

nodes_if : (test : Bool) (one other acts : List Act) → nodes_in one ≡ nodes_in acts → nodes_in other ≡ nodes_in acts → nodes_in (if test then one else other) ≡ nodes_in acts
nodes_if true one other acts first second = first
nodes_if false one other acts first second = second

pub nodes_linked : (need : Spot) (b q : ℕ) (acts : List Act) → nodes_in (linked_to need b q acts) ≡ nodes_in acts
nodes_linked need b q acts =
    nodes_if (is_stream need.filled.flow) _ _ acts
    (nodes_put b q (link.Act need.act need.reference) (put_link need.act need.reference (link.Act b q) acts) ∙ nodes_put need.act need.reference (link.Act b q) acts)
    (nodes_put need.act need.reference (link.Act b q) acts)
