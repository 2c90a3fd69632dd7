-- What linking a need takes, kind by kind.
use Rattle.std.proofs.Common.{◌≡◌, ℕ, ◌≤◌, List, length, Bool, true, false, not, ◌&&◌, ◌||◌, nat_eq, if◌then◌else◌, Option, Some, None, refl, sym, ap, ◌∙◌, subst, arith}
use Rattle.std.specs.List.{filter, list_any}
use Rattle.std.proofs.lemmas.Bool.{ne_eqb, eqb-true, and_parts, false≢true}
use Rattle.pst_scen.specs.declared.act.Act.{Act}
use Rattle.pst_scen.specs.declared.act.Flow.{Flow}
use Rattle.pst_scen.specs.declared.act.Flow.TheVariants.{BufferIn, BufferOut, StreamIn, StreamOut, StateIn, StateOut}
use Rattle.pst_scen.specs.declared.act.Link.{Link}
use Rattle.pst_scen.specs.declared.act.Link.TheVariants as link
use Rattle.pst_legal.specs.Supplied.{is_source_for}
use Rattle.pst_legal.specs.SupplyReading.{Spot as Read, spots, is_stream, is_writer, is_previous, same_link, act_with_link, put_link}
use Rattle.pst_ties.specs.declared.tied.End.{End}
use Rattle.pst_ties.specs.Tieds.{same_end}
use Rattle.pst_pool_sources.specs.declared.sources.PoolSources.{PoolSources}
use Rattle.pst_pool_sources.specs.Offers.{offers, end_of, may_serve, is_untaken, free_ends, without, takes, ends_at, begun_at, AreSources}
use Rattle.pst_open_ends.specs.declared.spot.Spot.{Spot}
use Rattle.pst_open_ends.specs.Spots.{read_spot}
use Rattle.pst_open_ends.specs.Options.{link_of}
use Rattle.pst_open_ends.proofs.Alters.{alter_length}
use Rattle.pst_open_ends.proofs.Lookups.{Each, each_spot}
use Rattle.pst_free_ends.specs.declared.taken.Taken.{Taken}
use Rattle.pst_free_ends.specs.Steps.{restored, unbegun, near_of, IsTurn, linked_by, mate_of, NoneAhead, Moved}
use Rattle.pst_free_ends.proofs.Each.{each_so, each_map, and_never, or_never, none_passes, picks_all, picks_swap, picks_others}
use Rattle.pst_free_ends.proofs.Spots.{at, spot_with, linked, linked_end, spots_linked, only_one, Picked, picked_is, spot_below}
use Rattle.pst_free_ends.proofs.Links.{hits, any_one, free_stream, AreUnlinked, previous_linked, free_other, free_unhit, previous_unhit}

-- ---- kinds

-- streams take from streams alone
streams_only : (n f : Flow) → is_stream n ≡ true → is_stream f ≡ false → is_source_for n f ≡ false
streams_only StreamIn BufferIn s h = refl
streams_only StreamIn BufferOut s h = refl
streams_only StreamIn StreamIn s h = refl
streams_only StreamIn StreamOut s h = absurd (false≢true (sym h))
streams_only StreamIn StateIn s h = refl
streams_only StreamIn StateOut s h = refl
streams_only StreamOut BufferIn s h = refl
streams_only StreamOut BufferOut s h = refl
streams_only StreamOut StreamIn s h = absurd (false≢true (sym h))
streams_only StreamOut StreamOut s h = refl
streams_only StreamOut StateIn s h = refl
streams_only StreamOut StateOut s h = refl
streams_only BufferIn f s h = absurd (false≢true s)
streams_only BufferOut f s h = absurd (false≢true s)
streams_only StateIn f s h = absurd (false≢true s)
streams_only StateOut f s h = absurd (false≢true s)

mate_is : (f g : Flow) → is_stream f ≡ true → is_source_for f g ≡ true → g ≡ mate_of f
mate_is StreamIn StreamOut s h = refl
mate_is StreamIn BufferIn s h = absurd (false≢true h)
mate_is StreamIn BufferOut s h = absurd (false≢true h)
mate_is StreamIn StreamIn s h = absurd (false≢true h)
mate_is StreamIn StateIn s h = absurd (false≢true h)
mate_is StreamIn StateOut s h = absurd (false≢true h)
mate_is StreamOut StreamIn s h = refl
mate_is StreamOut BufferIn s h = absurd (false≢true h)
mate_is StreamOut BufferOut s h = absurd (false≢true h)
mate_is StreamOut StreamOut s h = absurd (false≢true h)
mate_is StreamOut StateIn s h = absurd (false≢true h)
mate_is StreamOut StateOut s h = absurd (false≢true h)
mate_is BufferIn g s h = absurd (false≢true s)
mate_is BufferOut g s h = absurd (false≢true s)
mate_is StateIn g s h = absurd (false≢true s)
mate_is StateOut g s h = absurd (false≢true s)

mate_stream : (f : Flow) → is_stream f ≡ true → is_stream (mate_of f) ≡ true
mate_stream StreamIn s = refl
mate_stream StreamOut s = refl
mate_stream BufferIn s = absurd (false≢true s)
mate_stream BufferOut s = absurd (false≢true s)
mate_stream StateIn s = absurd (false≢true s)
mate_stream StateOut s = absurd (false≢true s)

pub mate_taken : (f : Flow) → is_stream f ≡ true → takes f (mate_of f) ≡ true
mate_taken StreamIn s = refl
mate_taken StreamOut s = refl
mate_taken BufferIn s = absurd (false≢true s)
mate_taken BufferOut s = absurd (false≢true s)
mate_taken StateIn s = absurd (false≢true s)
mate_taken StateOut s = absurd (false≢true s)

no_writer : (f : Flow) → is_stream f ≡ true → is_writer f ≡ false
no_writer StreamIn s = refl
no_writer StreamOut s = refl
no_writer BufferIn s = absurd (false≢true s)
no_writer BufferOut s = absurd (false≢true s)
no_writer StateIn s = absurd (false≢true s)
no_writer StateOut s = absurd (false≢true s)

-- for needs of streams
takes_stream : (n g : Flow) → is_stream n ≡ true → takes n g ≡ is_source_for n g
takes_stream StreamIn g s = refl
takes_stream StreamOut g s = refl
takes_stream BufferIn g s = absurd (false≢true s)
takes_stream BufferOut g s = absurd (false≢true s)
takes_stream StateIn g s = absurd (false≢true s)
takes_stream StateOut g s = absurd (false≢true s)

-- for other needs a stream end isn't taken
takes_no_stream : (n g : Flow) → is_stream n ≡ false → is_stream g ≡ true → takes n g ≡ false
takes_no_stream BufferIn g s h = refl
takes_no_stream BufferOut g s h = refl
takes_no_stream StateIn g s h = refl
takes_no_stream StateOut StreamIn s h = refl
takes_no_stream StateOut StreamOut s h = refl
takes_no_stream StateOut BufferIn s h = absurd (false≢true h)
takes_no_stream StateOut BufferOut s h = absurd (false≢true h)
takes_no_stream StateOut StateIn s h = absurd (false≢true h)
takes_no_stream StateOut StateOut s h = absurd (false≢true h)
takes_no_stream StreamIn g s h = absurd (false≢true (sym s))
takes_no_stream StreamOut g s h = absurd (false≢true (sym s))

by_stream : (P : Flow → Type 0) → ((n : Flow) → is_stream n ≡ true → P n) → ((n : Flow) → is_stream n ≡ false → P n) → (n : Flow) → P n
by_stream P s o StreamIn = s StreamIn refl
by_stream P s o StreamOut = s StreamOut refl
by_stream P s o BufferIn = o BufferIn refl
by_stream P s o BufferOut = o BufferOut refl
by_stream P s o StateIn = o StateIn refl
by_stream P s o StateOut = o StateOut refl

real_link : (to : Option End) → same_link (link_of to) link.Nothing ≡ false
real_link None = refl
real_link (Some e) = refl

-- ---- a need that has its turn

module _ (need : Spot) (acts : List Act) (turn : IsTurn need acts) (ahead : NoneAhead acts) where
  abbrev near : End
  near = near_of need

  abbrev one : Read
  one = turn.spot

  only : Each (λ s. at near s ≡ true → s ≡ one) (spots acts)
  only = only_one acts near one turn.is

  free_near : (to : Link) → AreUnlinked acts near to (spots acts)
  free_near to = each_so (λ s. at near s ≡ true → s ≡ one) (λ s. at near s ≡ true → is_writer s.filled.flow ≡ true → s.filled.link ≡ link.Nothing) (spots acts) (λ s o h w. ap (λ (x : Read). x.filled.link) (o h) ∙ turn.free) only

  hit : (p : ℕ) → hits near p (spots acts) ≡ (is_writer need.flow && nat_eq need.pool p)
  hit p =
      any_one near one (λ s. is_writer s.filled.flow && nat_eq s.filled.pool p) (spots acts) only
      ∙ ap (λ b. b && (is_writer one.filled.flow && nat_eq one.filled.pool p)) turn.among
      ∙ ap (λ f. is_writer f && nat_eq one.filled.pool p) turn.flow
      ∙ ap (λ q. is_writer need.flow && nat_eq q p) turn.pool

  offered : (n : Flow) (p : ℕ) → offers n p one.filled ≡ (is_source_for n need.flow && nat_eq need.pool p)
  offered n p = ap (λ f. is_source_for n f && nat_eq one.filled.pool p) turn.flow ∙ ap (λ q. is_source_for n need.flow && nat_eq q p) turn.pool

  -- where its end doesn't fit, it isn't among the references
  not_near : (n : Flow) (p : ℕ) → (is_source_for n need.flow && nat_eq need.pool p) ≡ false → without near (free_ends n p acts) ≡ free_ends n p acts
  not_near n p e =
      picks_others end_of (may_serve n p acts) (same_end near) (spots acts)
      (each_so (λ s. at near s ≡ true → s ≡ one) (λ s. at near s ≡ true → may_serve n p acts s ≡ false) (spots acts)
      (λ s o h. ap (may_serve n p acts) (o h) ∙ ap (λ b. b && is_untaken n p acts one) (offered n p ∙ e)) only)

  -- ---- not a stream

  module _ (to : Option End) (plain : is_stream need.flow ≡ false) where
    abbrev put : List Act
    put = put_link need.act need.reference (link_of to) acts

    pub linked_is : linked_by (read_spot need) to acts ≡ put
    linked_is = go to
      where
        go : (to : Option End) → linked_by (read_spot need) to acts ≡ put_link need.act need.reference (link_of to) acts
        go None = refl
        go (Some e) =
            ap (λ b. if b then put_link e.act e.reference (link.Act need.act need.reference) (put_link need.act need.reference (link.Act e.act e.reference) acts) else put_link need.act need.reference (link.Act e.act e.reference) acts) plain

    put_streams : (n : Flow) (p : ℕ) → is_stream n ≡ true → free_ends n p put ≡ free_ends n p acts
    put_streams n p s = free_stream acts near (link_of to) n p s (real_link to) ∙ not_near n p (ap (λ b. b && nat_eq need.pool p) (streams_only n need.flow s plain))

    put_others : (n : Flow) (p : ℕ) → is_stream n ≡ false → free_ends n p put ≡ filter (λ x. not (is_writer n && ((is_writer need.flow && nat_eq need.pool p) && same_link (link_of to) (link_of (Some x))))) (free_ends n p acts)
    put_others n p s =
        free_other acts near (link_of to) (free_near (link_of to)) n p s
        ∙ ap (λ b. filter (λ x. not (is_writer n && (b && same_link (link_of to) (link_of (Some x))))) (free_ends n p acts)) (hit p)

    put_previous : (p : ℕ) (x : Link) → same_link link.Nothing x ≡ false → is_previous put p x ≡ (is_previous acts p x || ((is_writer need.flow && nat_eq need.pool p) && same_link (link_of to) x))
    put_previous p x nx =
        previous_linked acts near (link_of to) (free_near (link_of to)) p x nx
        ∙ ap (λ b. is_previous acts p x || (b && same_link (link_of to) x)) (hit p)

    put_length : length put ≡ length acts
    put_length = alter_length (act_with_link need.reference (link_of to)) need.act acts

    put_ahead : ((p : ℕ) (e : End) → length acts ≤ e.act → ((is_writer need.flow && nat_eq need.pool p) && same_link (link_of to) (link_of (Some e))) ≡ false) → NoneAhead put
    put_ahead h p e l =
        let z = put_length in
        let m : length acts ≤ e.act = omega arith in
        put_previous p (link_of (Some e)) refl
        ∙ ap (λ b. b || ((is_writer need.flow && nat_eq need.pool p) && same_link (link_of to) (link_of (Some e)))) (ahead p e m)
        ∙ h p e m

  -- ---- nothing is taken

  pub nothing_moves : (to : Option End) (sources : PoolSources) (taken : Taken) → is_stream need.flow ≡ false → is_writer need.flow ≡ false → taken.far ≡ None → taken.near ≡ None → taken.begun ≡ None → AreSources sources acts → Moved sources taken acts (linked_by (read_spot need) to acts)
  nothing_moves to sources taken plain w far near-is begun are = subst (Moved sources taken acts) (sym (linked_is to plain)) moved
    where
      new : List Act
      new = put_link need.act need.reference (link_of to) acts

      none : (p : ℕ) (x : Link) → ((is_writer need.flow && nat_eq need.pool p) && same_link (link_of to) x) ≡ false
      none p x = ap (λ b. (b && nat_eq need.pool p) && same_link (link_of to) x) w

      same : (n : Flow) (p : ℕ) → free_ends n p new ≡ free_ends n p acts
      same n p = by_stream (λ n. free_ends n p new ≡ free_ends n p acts) (λ n s. put_streams to plain n p s)
          (λ n s. put_others to plain n p s ∙ picks_all (λ x. not (is_writer n && ((is_writer need.flow && nat_eq need.pool p) && same_link (link_of to) (link_of (Some x))))) (free_ends n p acts)
          (λ x. ap (λ b. not (is_writer n && b)) (none p (link_of (Some x))) ∙ ap not (and_never (is_writer n)))) n

      first : (p : ℕ) → is_previous new p link.Initial ≡ is_previous acts p link.Initial
      first p = put_previous to plain p link.Initial refl ∙ ap (λ b. is_previous acts p link.Initial || b) (none p link.Initial) ∙ or_never (is_previous acts p link.Initial)

      moved : Moved sources taken acts new
      moved = record {
        are = record {
          ends = λ n p. are.ends n p ∙ sym (same n p);
          begun = λ p. are.begun p ∙ sym (first p);
        };
        takes = record {
          ends = λ n p. sym (ap (λ r. restored r n p (restored taken.near n p (free_ends n p new))) far ∙ ap (λ r. restored r n p (free_ends n p new)) near-is ∙ same n p);
          begun = λ p. sym (ap (λ r. unbegun r p (is_previous new p link.Initial)) begun ∙ first p);
        };
        ahead = put_ahead to plain (λ p e l. none p (link_of (Some e)));
      }

  -- ---- the first object is taken

  module _ (writer : need.flow ≡ StateOut) where
    plain_writer : is_stream need.flow ≡ false
    plain_writer = ap is_stream writer

    is_one : is_writer need.flow ≡ true
    is_one = ap is_writer writer

    writer_streams : (to : Option End) (n : Flow) (p : ℕ) → is_stream n ≡ true → free_ends n p (put_link need.act need.reference (link_of to) acts) ≡ free_ends n p acts
    writer_streams to n p s = put_streams to plain_writer n p s

    pub first_moves : (sources old : PoolSources) (taken : Taken) → taken.far ≡ None → taken.near ≡ None → taken.begun ≡ Some need.pool → AreSources old acts
        → ((n : Flow) (p : ℕ) → ends_at n p sources ≡ ends_at n p old) → ((p : ℕ) → begun_at p sources ≡ (begun_at p old || nat_eq need.pool p)) → begun_at need.pool old ≡ false
        → Moved sources taken acts (linked_by (read_spot need) None acts)
    first_moves sources old taken far near-is begun are ends now fresh = record {
      are = record {
        ends = λ n p. ends n p ∙ are.ends n p ∙ sym (same n p);
        begun = λ p. now p ∙ ap (λ b. b || nat_eq need.pool p) (are.begun p) ∙ sym (first p);
      };
      takes = record {
        ends = λ n p. sym (ap (λ r. restored r n p (restored taken.near n p (free_ends n p new))) far ∙ ap (λ r. restored r n p (free_ends n p new)) near-is ∙ same n p);
        begun = λ p. before p (nat_eq need.pool p) refl ∙ sym (ap (λ r. unbegun r p (is_previous new p link.Initial)) begun);
      };
      ahead = put_ahead None plain_writer (λ p e l. and_never (is_writer need.flow && nat_eq need.pool p));
    }
      where
        new : List Act
        new = put_link need.act need.reference link.Initial acts

        same : (n : Flow) (p : ℕ) → free_ends n p new ≡ free_ends n p acts
        same n p = by_stream (λ n. free_ends n p new ≡ free_ends n p acts) (λ n s. writer_streams None n p s)
            (λ n s. put_others None plain_writer n p s ∙ picks_all (λ x. not (is_writer n && ((is_writer need.flow && nat_eq need.pool p) && same_link link.Initial (link_of (Some x))))) (free_ends n p acts)
            (λ x. ap (λ b. not (is_writer n && b)) (and_never (is_writer need.flow && nat_eq need.pool p)) ∙ ap not (and_never (is_writer n)))) n

        first : (p : ℕ) → is_previous new p link.Initial ≡ (is_previous acts p link.Initial || nat_eq need.pool p)
        first p =
            put_previous None plain_writer p link.Initial refl
            ∙ ap (λ b. is_previous acts p link.Initial || ((b && nat_eq need.pool p) && true)) is_one
            ∙ ap (λ b. is_previous acts p link.Initial || b) (so (nat_eq need.pool p))
          where
            so : (b : Bool) → (b && true) ≡ b
            so true = refl
            so false = refl

        before : (p : ℕ) (q : Bool) → nat_eq need.pool p ≡ q → is_previous acts p link.Initial ≡ (not (nat_eq need.pool p) && is_previous new p link.Initial)
        before p true e =
            ap (λ i. is_previous acts i link.Initial) (sym (eqb-true need.pool p e))
            ∙ sym (are.begun need.pool) ∙ fresh
            ∙ ap (λ b. not b && is_previous new p link.Initial) (sym e)
        before p false e =
            sym (first p ∙ ap (λ b. is_previous acts p link.Initial || b) e ∙ or_never (is_previous acts p link.Initial))
            ∙ ap (λ b. not b && is_previous new p link.Initial) (sym e)

    -- ---- a writer replaces another

    taken_or_not : (far : End) (n : Flow) (q : Bool) (xs : List End) → is_stream n ≡ false → filter (λ x. not (is_writer n && ((true && q) && same_link (link_of (Some far)) (link_of (Some x))))) xs ≡ (if takes n StateOut && q then without far xs else xs)
    taken_or_not far StateOut true xs s = refl
    taken_or_not far StateOut false xs s = picks_all (λ x. true) xs (λ x. refl)
    taken_or_not far BufferIn q xs s = picks_all (λ x. true) xs (λ x. refl)
    taken_or_not far BufferOut q xs s = picks_all (λ x. true) xs (λ x. refl)
    taken_or_not far StateIn q xs s = picks_all (λ x. true) xs (λ x. refl)
    taken_or_not far StreamIn q xs s = absurd (false≢true (sym s))
    taken_or_not far StreamOut q xs s = absurd (false≢true (sym s))

    no_stream_taken : (n : Flow) (q : Bool) (xs ys : List End) → is_stream n ≡ true → (if takes n StateOut && q then ys else xs) ≡ xs
    no_stream_taken StreamIn q xs ys s = refl
    no_stream_taken StreamOut q xs ys s = refl
    no_stream_taken BufferIn q xs ys s = absurd (false≢true s)
    no_stream_taken BufferOut q xs ys s = absurd (false≢true s)
    no_stream_taken StateIn q xs ys s = absurd (false≢true s)
    no_stream_taken StateOut q xs ys s = absurd (false≢true s)

    pub writer_moves : (sources old : PoolSources) (taken : Taken) (far : End) → taken.near ≡ None → taken.begun ≡ None → AreSources old acts
        → ((n : Flow) (p : ℕ) → ends_at n p sources ≡ (if takes n StateOut && nat_eq need.pool p then without far (ends_at n p old) else ends_at n p old))
        → ((n : Flow) (p : ℕ) → ends_at n p old ≡ restored taken.far n p (ends_at n p sources))
        → list_any (same_end far) (ends_at StateOut need.pool old) ≡ true
        → ((p : ℕ) → begun_at p sources ≡ begun_at p old)
        → Moved sources taken acts (linked_by (read_spot need) (Some far) acts)
    writer_moves sources old taken far near-is begun are left back found still = subst (Moved sources taken acts) (sym (linked_is (Some far) plain_writer)) moved
      where
        new : List Act
        new = put_link need.act need.reference (link_of (Some far)) acts

        there : Picked acts far (may_serve StateOut need.pool acts)
        there = picked_is acts far (may_serve StateOut need.pool acts) (spots acts) (each_spot acts) (ap (list_any (same_end far)) (sym (are.ends StateOut need.pool)) ∙ found)

        same : (n : Flow) (p : ℕ) → ends_at n p sources ≡ free_ends n p new
        same n p =
            left n p
            ∙ ap (λ l. if takes n StateOut && nat_eq need.pool p then without far l else l) (are.ends n p)
            ∙ by_stream (λ n. (if takes n StateOut && nat_eq need.pool p then without far (free_ends n p acts) else free_ends n p acts) ≡ free_ends n p new)
            (λ n s. no_stream_taken n (nat_eq need.pool p) (free_ends n p acts) (without far (free_ends n p acts)) s ∙ sym (writer_streams (Some far) n p s))
            (λ n s. sym (
            put_others (Some far) plain_writer n p s
            ∙ ap (λ b. filter (λ x. not (is_writer n && ((b && nat_eq need.pool p) && same_link (link_of (Some far)) (link_of (Some x))))) (free_ends n p acts)) is_one
            ∙ taken_or_not far n (nat_eq need.pool p) (free_ends n p acts) s
            )) n

        first : (p : ℕ) → is_previous new p link.Initial ≡ is_previous acts p link.Initial
        first p =
            put_previous (Some far) plain_writer p link.Initial refl
            ∙ ap (λ b. is_previous acts p link.Initial || b) (and_never (is_writer need.flow && nat_eq need.pool p))
            ∙ or_never (is_previous acts p link.Initial)

        moved : Moved sources taken acts new
        moved = record {
          are = record {
            ends = same;
            begun = λ p. still p ∙ are.begun p ∙ sym (first p);
          };
          takes = record {
            ends = λ n p.
                sym (are.ends n p)
                ∙ back n p
                ∙ ap (λ l. restored taken.far n p l) (same n p)
                ∙ sym (ap (λ r. restored taken.far n p (restored r n p (free_ends n p new))) near-is);
            begun = λ p. sym (ap (λ r. unbegun r p (is_previous new p link.Initial)) begun ∙ first p);
          };
          ahead = put_ahead (Some far) plain_writer (λ p e l.
              let below = spot_below acts far there.spot there.is in
              ap (λ b. (is_writer need.flow && nat_eq need.pool p) && (b && nat_eq far.reference e.reference)) (ne_eqb far.act e.act (λ s. let bad : ⊥ = omega arith in bad))
              ∙ and_never (is_writer need.flow && nat_eq need.pool p));
        }

  -- ---- both ends of a stream are taken

  module _ (stream : is_stream need.flow ≡ true) (far : End) (there : Picked acts far (may_serve need.flow need.pool acts)) where
    abbrev other : Read
    other = there.spot

    abbrev half : List Act
    half = put_link need.act need.reference (link.Act far.act far.reference) acts

    abbrev whole : List Act
    whole = put_link far.act far.reference (link.Act need.act need.reference) half

    pub both_linked : linked_by (read_spot need) (Some far) acts ≡ whole
    both_linked = ap (λ b. if b then whole else half) stream

    fits_it : (is_source_for need.flow other.filled.flow ≡ true) × (nat_eq other.filled.pool need.pool ≡ true)
    fits_it =
        let o = and_parts (offers need.flow need.pool other.filled) (is_untaken need.flow need.pool acts other) there.passes in
        and_parts (is_source_for need.flow other.filled.flow) (nat_eq other.filled.pool need.pool) o.0

    mate_flow : other.filled.flow ≡ mate_of need.flow
    mate_flow = mate_is need.flow other.filled.flow stream fits_it.0

    mate_pool : other.filled.pool ≡ need.pool
    mate_pool = eqb-true other.filled.pool need.pool fits_it.1

    only_other : Each (λ s. at far s ≡ true → s ≡ other) (spots acts)
    only_other = only_one acts far other there.is

    plain_other : is_writer other.filled.flow ≡ false
    plain_other = ap is_writer mate_flow ∙ no_writer (mate_of need.flow) (mate_stream need.flow stream)

    abbrev near_link : Link
    near_link = link.Act far.act far.reference

    -- the other end isn't a writer, before and after the need is linked
    half_plain : Each (λ s. at far s ≡ true → is_writer s.filled.flow ≡ false) (spots half)
    half_plain =
        subst (Each (λ s. at far s ≡ true → is_writer s.filled.flow ≡ false)) (sym (spots_linked need.act need.reference near_link acts))
        (each_map (λ s. at far s ≡ true → is_writer s.filled.flow ≡ false) (linked near near_link) (spots acts)
        (each_so (λ s. at far s ≡ true → s ≡ other) (λ s. at far (linked near near_link s) ≡ true → is_writer (linked near near_link s).filled.flow ≡ false) (spots acts)
        (λ s o h. flow_stays (at near s) s ∙ ap (λ (x : Read). is_writer x.filled.flow) (o (ap (same_end far) (sym (linked_end near near_link s)) ∙ h)) ∙ plain_other) only_other))
      where
        flow_stays : (b : Bool) (s : Read) → is_writer (if b then spot_with near_link s else s).filled.flow ≡ is_writer s.filled.flow
        flow_stays true s = refl
        flow_stays false s = refl

    abbrev far_link : Link
    far_link = link.Act need.act need.reference

    half_unlinked : AreUnlinked half far far_link (spots half)
    half_unlinked = each_so (λ s. at far s ≡ true → is_writer s.filled.flow ≡ false) (λ s. at far s ≡ true → is_writer s.filled.flow ≡ true → s.filled.link ≡ link.Nothing) (spots half) (λ s n h w. absurd (false≢true (sym (n h) ∙ w))) half_plain

    half_unhit : (p : ℕ) → hits far p (spots half) ≡ false
    half_unhit p =
        none_passes (λ s. at far s && (is_writer s.filled.flow && nat_eq s.filled.pool p)) (spots half)
        (each_so (λ s. at far s ≡ true → is_writer s.filled.flow ≡ false) (λ s. (at far s && (is_writer s.filled.flow && nat_eq s.filled.pool p)) ≡ false) (spots half) (λ s n. go s n (at far s) refl) half_plain)
      where
        go : (s : Read) → (at far s ≡ true → is_writer s.filled.flow ≡ false) → (b : Bool) → at far s ≡ b → (b && (is_writer s.filled.flow && nat_eq s.filled.pool p)) ≡ false
        go s n true e = ap (λ w. w && nat_eq s.filled.pool p) (n e)
        go s n false e = refl

    near_unhit : (p : ℕ) → hits near p (spots acts) ≡ false
    near_unhit p = hit p ∙ ap (λ w. w && nat_eq need.pool p) (no_writer need.flow stream)

    whole_streams : (n : Flow) (p : ℕ) → is_stream n ≡ true → free_ends n p whole ≡ without far (without near (free_ends n p acts))
    whole_streams n p s = free_stream half far far_link n p s refl ∙ ap (without far) (free_stream acts near near_link n p s refl)

    whole_others : (n : Flow) (p : ℕ) → is_stream n ≡ false → free_ends n p whole ≡ free_ends n p acts
    whole_others n p s = free_unhit half far far_link half_unlinked n p s (half_unhit p) ∙ free_unhit acts near near_link (free_near near_link) n p s (near_unhit p)

    whole_previous : (p : ℕ) (x : Link) → same_link link.Nothing x ≡ false → is_previous whole p x ≡ is_previous acts p x
    whole_previous p x nx = previous_unhit half far far_link half_unlinked p x nx (half_unhit p) ∙ previous_unhit acts near near_link (free_near near_link) p x nx (near_unhit p)

    whole_length : length whole ≡ length acts
    whole_length = alter_length (act_with_link far.reference far_link) far.act half ∙ alter_length (act_with_link need.reference near_link) need.act acts

    -- the first list that is changed
    far_out : (n : Flow) (p : ℕ) → is_stream n ≡ true → (if takes n (mate_of need.flow) && nat_eq need.pool p then without far (free_ends n p acts) else free_ends n p acts) ≡ without far (free_ends n p acts)
    far_out n p s = go (takes n (mate_of need.flow) && nat_eq need.pool p) refl
      where
        offer : (b : Bool) → (takes n (mate_of need.flow) && nat_eq need.pool p) ≡ b → offers n p other.filled ≡ b
        offer b e =
            ap (λ f. is_source_for n f && nat_eq other.filled.pool p) mate_flow
            ∙ ap (λ q. is_source_for n (mate_of need.flow) && nat_eq q p) mate_pool
            ∙ ap (λ t. t && nat_eq need.pool p) (sym (takes_stream n (mate_of need.flow) s))
            ∙ e

        go : (b : Bool) → (takes n (mate_of need.flow) && nat_eq need.pool p) ≡ b → (if b then without far (free_ends n p acts) else free_ends n p acts) ≡ without far (free_ends n p acts)
        go true e = refl
        go false e = sym (
            picks_others end_of (may_serve n p acts) (same_end far) (spots acts)
            (each_so (λ s. at far s ≡ true → s ≡ other) (λ s. at far s ≡ true → may_serve n p acts s ≡ false) (spots acts)
            (λ s o h. ap (may_serve n p acts) (o h) ∙ ap (λ b. b && is_untaken n p acts other) (offer false e)) only_other))

    near_out : (n : Flow) (p : ℕ) → is_stream n ≡ true → (if takes n need.flow && nat_eq need.pool p then without near (without far (free_ends n p acts)) else without far (free_ends n p acts)) ≡ without near (without far (free_ends n p acts))
    near_out n p s = go (takes n need.flow && nat_eq need.pool p) refl
      where
        go : (b : Bool) → (takes n need.flow && nat_eq need.pool p) ≡ b → (if b then without near (without far (free_ends n p acts)) else without far (free_ends n p acts)) ≡ without near (without far (free_ends n p acts))
        go true e = refl
        go false e = sym (
            picks_swap (λ x. not (same_end near x)) (λ x. not (same_end far x)) (free_ends n p acts)
            ∙ ap (without far) (not_near n p (ap (λ t. t && nat_eq need.pool p) (sym (takes_stream n need.flow s)) ∙ e)))

    pub stream_moves : (sources mid old : PoolSources) (taken : Taken) → taken.begun ≡ None → AreSources old acts
        → ((n : Flow) (p : ℕ) → ends_at n p mid ≡ (if takes n (mate_of need.flow) && nat_eq need.pool p then without far (ends_at n p old) else ends_at n p old))
        → ((n : Flow) (p : ℕ) → ends_at n p old ≡ restored taken.far n p (ends_at n p mid))
        → ((n : Flow) (p : ℕ) → ends_at n p sources ≡ (if takes n need.flow && nat_eq need.pool p then without near (ends_at n p mid) else ends_at n p mid))
        → ((n : Flow) (p : ℕ) → ends_at n p mid ≡ restored taken.near n p (ends_at n p sources))
        → ((p : ℕ) → begun_at p sources ≡ begun_at p old)
        → Moved sources taken acts (linked_by (read_spot need) (Some far) acts)
    stream_moves sources mid old taken begun are left back left2 back2 still = subst (Moved sources taken acts) (sym both_linked) moved
      where
        mid_streams : (n : Flow) (p : ℕ) → is_stream n ≡ true → ends_at n p mid ≡ without far (free_ends n p acts)
        mid_streams n p s =
            left n p
            ∙ ap (λ l. if takes n (mate_of need.flow) && nat_eq need.pool p then without far l else l) (are.ends n p)
            ∙ far_out n p s

        same : (n : Flow) (p : ℕ) → ends_at n p sources ≡ free_ends n p whole
        same n p = by_stream (λ n. ends_at n p sources ≡ free_ends n p whole)
            (λ n s. left2 n p
            ∙ ap (λ l. if takes n need.flow && nat_eq need.pool p then without near l else l) (mid_streams n p s)
            ∙ near_out n p s
            ∙ picks_swap (λ x. not (same_end near x)) (λ x. not (same_end far x)) (free_ends n p acts)
            ∙ sym (whole_streams n p s))
            (λ n s. left2 n p
            ∙ ap (λ t. if t && nat_eq need.pool p then without near (ends_at n p mid) else ends_at n p mid) (takes_no_stream n need.flow s stream)
            ∙ left n p
            ∙ ap (λ t. if t && nat_eq need.pool p then without far (ends_at n p old) else ends_at n p old) (takes_no_stream n (mate_of need.flow) s (mate_stream need.flow stream))
            ∙ are.ends n p
            ∙ sym (whole_others n p s)) n

        moved : Moved sources taken acts whole
        moved = record {
          are = record {
            ends = same;
            begun = λ p. still p ∙ are.begun p ∙ sym (whole_previous p link.Initial refl);
          };
          takes = record {
            ends = λ n p.
                sym (are.ends n p)
                ∙ back n p
                ∙ ap (λ l. restored taken.far n p l) (back2 n p)
                ∙ ap (λ l. restored taken.far n p (restored taken.near n p l)) (same n p);
            begun = λ p. sym (ap (λ r. unbegun r p (is_previous whole p link.Initial)) begun ∙ whole_previous p link.Initial refl);
          };
          ahead = λ p e l.
              let z = whole_length in
              whole_previous p (link_of (Some e)) refl ∙ ahead p e (omega arith);
        }
