-- Links that are read join open ends of one pool.
use Rattle.std.proofs.Common.{◌≡◌, ℕ, List, [], ◌∷◌, ◌++◌, length, not, ◌&&◌, ◌||◌, nat_eq, Bool, true, false, if◌then◌else◌, Option, Some, None, refl, sym, ap, ◌∙◌, subst, ⊎_elim, arith}
use Rattle.std.specs.Option.{option_map}
use Rattle.std.proofs.lemmas.List.{length-map}
use Rattle.std.proofs.lemmas.Option.{none-some, slice_get-map}
use Rattle.std.proofs.lemmas.Bool.{false≢true, and_parts, or_cases, not-true, eqb-false}
use Rattle.pst_model.specs.declared.action.Field.{Field}
use Rattle.pst_model.specs.ModelTree.{ModelTree}
use Rattle.pst_scen.specs.declared.act.Act.{Act}
use Rattle.pst_scen.specs.declared.act.Flow.{Flow}
use Rattle.pst_scen.specs.declared.act.Flow.TheVariants.{BufferIn, BufferOut, StreamIn, StreamOut, StateIn, StateOut}
use Rattle.pst_scen.specs.declared.act.Link.{Link}
use Rattle.pst_scen.specs.declared.act.Link.TheVariants as link
use Rattle.pst_scen.specs.declared.scenario.Scenario.{Scenario}
use Rattle.pst_legal.specs.Growing.{nothing_yet, Look, Inner, Leaf, open_act, with_look}
use Rattle.pst_legal.specs.Blanks.{Blank, claim_blanks, value_blanks}
use Rattle.pst_legal.specs.Menus.{menu}
use Rattle.pst_legal.specs.Supplied.{is_need, is_source_for}
use Rattle.pst_legal.specs.Reading.{Reading, Wants, Stops, Reads, put_value, value_number, read_tree}
use Rattle.pst_legal.specs.SupplyReading.{Spot, spots, same_link, is_open, fixed_for, is_elsewhere, has_turn, next_need, Source, Initially, From, New, is_state, is_writer, is_stream, is_previous, is_free, fits, sources_by, sources, linked_to, supplied_by, read_supply}
use Rattle.pst_legal.specs.ValueReading.{with_option, with_firsts, read_values, answer_of, read_all}
use Rattle.pst_built.specs.SoFar.{HasRead}
use Rattle.pst_built.specs.StepsOf.{FieldSteps, BlankSteps}
use Rattle.pst_built.proofs.Goes.{Stands, Goes, stands, goes_then}
use Rattle.pst_built.proofs.Read.{AnyWay, any_ways}
use Rattle.pst_built.proofs.Readers.{goes_tree, goes_supply, goes_values}
use Rattle.pst_built.proofs.Members.{In, in_if, in_get, in_find}
use Rattle.pst_built.proofs.Bares.{Bare, bare, bares_in, bares, bare_from, bare_of, bares_put}
use Rattle.pst_built.proofs.Opens.{IsOpenRow, act_is_open, bare_cases, bares_push}
use Rattle.pst_built.proofs.Links.{bare_within, Links, open_links, push_links, put_links}
use Rattle.pst_built.proofs.Ends.{Ends, open_ends, push_ends, put_ends}
use Rattle.pst_built.proofs.Linking.{IsTurn, open_need, Pairs, paired, paired_ends}
use Rattle.pst_built.proofs.Spots.{spot_is, IsFresh, fresh, Suits, suits}
use Rattle.pst_built.proofs.Supply.{reference_more, reference_last}
use Rattle.pst_read_slots.proofs.Same.{option_same}
use Rattle.pst_read_so_far.specs.Joined.{JoinOpenEnds}
use Rattle.pst_read_so_far.specs.Laws.{LinksJoinOpenEnds}

abbrev AreJoined : List Act → Type 0
AreJoined acts = Links (bares acts) × Ends (bares acts)

-- where links are so, they are behind the step
abbrev Joins : Scenario → Scenario → Type 0
Joins s t = AreJoined s.actions → AreJoined t.actions

-- ---- one action more

acts_push : (m : ModelTree) (acts : List Act) (action instance : ℕ) (node : Option ℕ) → AreJoined acts → AreJoined (acts ++ open_act m action instance node ∷ [])
acts_push m acts action instance node all =
    let x = open_act m action instance node in
    let row = act_is_open m action instance node in (
      subst Links (sym (bares_push acts x)) (push_links (bares acts) (bares_in x) all.0 row),
      subst Ends (sym (bares_push acts x)) (push_ends (bares acts) (bares_in x) all.0 all.1 row),
    )

look_joins : (m : ModelTree) (s : Scenario) (parent : Option ℕ) (look : Look) → Joins s (with_look m s parent look)
look_joins m s parent (Inner fill) all = all
look_joins m s parent (Leaf action instance) all = acts_push m s.actions action instance (Some (length s.nodes)) all

field_steps : (n : ℕ) (fields : List Field) (s : Scenario) → FieldSteps Joins n fields s
field_steps n [] s = tt
field_steps n (field ∷ fields) s = λ k l. ((λ all. all), field_steps n fields (put_value s n (value_number field k)))

-- ---- the first object as a source

no_act : (b q : ℕ) → link.Initial ≡ link.Act b q → ⊥
no_act b q e = cc

no_stream : (flow : Flow) → is_state flow ≡ true → is_stream flow ≡ false
no_stream StateIn e = refl
no_stream StateOut e = refl
no_stream BufferIn e = refl
no_stream BufferOut e = refl
no_stream StreamIn e = absurd (false≢true e)
no_stream StreamOut e = absurd (false≢true e)

previous_false : (writer previous : Bool) → not (writer && previous) ≡ true → writer ≡ true → previous ≡ false
previous_false true true e is = absurd (false≢true e)
previous_false true false e is = refl
previous_false false previous e is = absurd (false≢true is)

free_if : (stream one other : Bool) → (if stream then one else other) ≡ true → stream ≡ false → other ≡ true
free_if true one other e is = absurd (false≢true (sym is))
free_if false one other e is = e

open_if : (stream one other : Bool) → (if stream then one else other) ≡ true → stream ≡ true → one ≡ true
open_if true one other e is = e
open_if false one other e is = absurd (false≢true is)

open_link : (l : Link) → same_link l link.Nothing ≡ true → l ≡ link.Nothing
open_link link.Nothing e = refl
open_link link.Initial e = absurd (false≢true e)
open_link (link.Act a r) e = absurd (false≢true e)

initially : (m : ModelTree) (s : Scenario) (need : Spot) → IsTurn s.actions need → Suits m s need Initially → Joins s (supplied_by m s need Initially)
initially m s need turn suit all =
    let rows = bares s.actions in
    let x = bare need.filled in
    let test = and_parts (is_state need.filled.flow) (not (is_writer need.filled.flow && is_previous s.actions need.filled.pool link.Initial)) suit in
    let put = bares_put need.act need.reference link.Initial s.actions in (
      subst Links (sym put) (put_links rows need.act need.reference x link.Initial all.0 (bare_from s.actions need.act need.reference need.filled turn.at) (record {
        there = λ b q e. absurd (no_act b q e);
        fresh = λ flow. fresh s.actions need.filled.pool link.Initial (previous_false (is_writer need.filled.flow) (is_previous s.actions need.filled.pool link.Initial) test.1 (ap is_writer flow));
      })),
      subst Ends (sym put) (put_ends rows need.act need.reference x link.Initial all.1 (open_need s.actions need turn) (no_stream need.filled.flow test.0) (λ e. test.0)),
    )

-- ---- a reference as a source

linked_joins : (acts : List Act) (need : Spot) (b q : ℕ) → Pairs acts need b q → AreJoined acts → AreJoined (linked_to need b q acts)
linked_joins acts need b q pairs all = (paired acts need b q pairs all.0, paired_ends acts need b q pairs all.0 all.1)

from : (m : ModelTree) (s : Scenario) (need : Spot) (b q : ℕ) → IsTurn s.actions need → Suits m s need (From b q) → Joins s (supplied_by m s need (From b q))
from m s need b q turn suit all =
    let flow = need.filled.flow in
    let spot : Spot = record { act = b; reference = q; filled = suit.0 } in
    let previous = is_previous s.actions need.filled.pool (link.Act b q) in
    let p = and_parts (not (nat_eq b need.act)) (fits need.filled suit.0 && is_free s.actions need.filled spot) suit.2 in
    let f = and_parts (fits need.filled suit.0) (is_free s.actions need.filled spot) p.1 in
    linked_joins s.actions need b q (record {
      turn = turn;
      source = suit.0;
      is = suit.1;
      other = eqb-false b need.act (not-true (nat_eq b need.act) p.0);
      fitting = f.0;
      unlinked = λ stream. open_link suit.0.link (open_if (is_stream flow) (is_open spot) (not (is_writer flow && previous)) f.1 stream);
      free = λ writes. fresh s.actions need.filled.pool (link.Act b q)
          (previous_false (is_writer flow) previous (free_if (is_stream flow) (is_open spot) (not (is_writer flow && previous)) f.1 (ap is_stream writes)) (ap is_writer writes));
    }) all

-- no link names the number of an action that isn't there yet
none_behind : (rows : List (List Bare)) (row : List Bare) (pool q : ℕ) → Links rows → IsOpenRow row → IsFresh (rows ++ row ∷ []) pool (link.Act (length rows) q)
none_behind rows row pool q links unlinked b r y at flow same e =
    ⊎_elim
    (λ old. let s = links.there b r (length rows) q y old e in let l = bare_within rows (length rows) q s.source s.is in absurd (omega (arith, l)))
    (λ new. nothing (sym (unlinked r y new.1) ∙ e))
    (bare_cases rows row b r y at)
  where
    nothing : link.Nothing ≡ link.Act (length rows) q → ⊥
    nothing none = cc

new : (m : ModelTree) (s : Scenario) (need : Spot) (action instance q : ℕ) → IsTurn s.actions need → Suits m s need (New action instance q) → Joins s (supplied_by m s need (New action instance q))
new m s need action instance q turn suit all =
    let act = open_act m action instance None in
    let acts = s.actions ++ act ∷ [] in
    let row = act_is_open m action instance None in
    let within = bare_within (bares s.actions) need.act need.reference (bare need.filled) (bare_from s.actions need.act need.reference need.filled turn.at) in
    let many = length-map s.actions bares_in in
    linked_joins acts need (length s.actions) q (record {
      turn = record { at = reference_more s.actions act need.act need.reference need.filled turn.at; unlinked = turn.unlinked; needs = turn.needs };
      source = suit.filled;
      is = reference_last s.actions act q ∙ suit.at;
      other = λ e. absurd (omega (arith, within, many, e));
      fitting = suit.fitting;
      unlinked = λ stream. row q (bare suit.filled) (slice_get-map bare act.references q ∙ ap (option_map bare) suit.at);
      free = λ flow. subst (λ rows. IsFresh rows need.filled.pool (link.Act (length s.actions) q)) (sym (bares_push s.actions act))
          (subst (λ k. IsFresh (bares s.actions ++ bares_in act ∷ []) need.filled.pool (link.Act k q)) many
          (none_behind (bares s.actions) (bares_in act) need.filled.pool q all.0 row));
    }) (acts_push m s.actions action instance None all)

source_joins : (m : ModelTree) (s : Scenario) (need : Spot) (source : Source) → IsTurn s.actions need → Suits m s need source → Joins s (supplied_by m s need source)
source_joins m s need Initially turn suit all = initially m s need turn suit all
source_joins m s need (From b q) turn suit all = from m s need b q turn suit all
source_joins m s need (New action instance q) turn suit all = new m s need action instance q turn suit all

-- A need that has a source to choose isn't linked yet: one that is linked against its bind has none.
by_bind : (m : ModelTree) (s : Scenario) (need : Spot) (bound : Option (ℕ × ℕ)) (source : Source) → In source (sources_by m s need bound) → (is_open need || is_elsewhere bound need) ≡ true → is_open need ≡ true
by_bind m s need None source has e = ⊎_elim (λ opened. opened) (λ none. absurd (false≢true none)) (or_cases (is_open need) false e)
by_bind m s need (Some bound) source has e = (in_if (is_open need) _ source has).0

turn_is : (m : ModelTree) (s : Scenario) (need : Spot) (source : Source) → next_need m s ≡ Some need → In source (sources m s need) → IsTurn s.actions need
turn_is m s need source is has =
    let f = in_find (has_turn m s) (spots s.actions) need is in
    let p = and_parts (is_need need.filled.flow) (is_open need || is_elsewhere (fixed_for m s need) need) f.1 in
    record { at = spot_is s.actions need f.0; unlinked = open_link need.filled.link (by_bind m s need (fixed_for m s need) source has p.1); needs = p.0 }

-- ---- all parts

blank_steps : (m : ModelTree) (blanks : List Blank) (s : Scenario) → BlankSteps Joins m blanks s
blank_steps m [] s = tt
blank_steps m (blank ∷ more) s = λ k l. (
  (λ all. let same = (option_same m s k blank).references in (subst Links (sym same) all.0, subst Ends (sym same) all.1)),
  blank_steps m more (with_option m k blank s),
)

joins_same : (s : Scenario) → Joins s s
joins_same s all = all

joins_then : (s t u : Scenario) → Joins s t → Joins t u → Joins s u
joins_then s t u one other all = other (one all)

goes_all : (m : ModelTree) (seed root : ℕ) (s : Scenario) (p : ℕ) (ds : List ℕ) → Goes Joins s (read_all m seed root) p ds
goes_all m seed root s p ds =
    goes_then Joins joins_then s _ (λ more. _) (read_values m seed)
    (goes_then Joins joins_then s (read_tree m seed root s p ds) (λ more. read_tree m seed root s p (ds ++ more)) (read_supply m seed)
    (goes_tree Joins joins_same joins_then m AnyWay (λ piece. any_ways (menu m piece)) (λ t parent look fields is. (look_joins m t parent look, field_steps (length t.nodes) fields (with_look m t parent look))) seed root s p ds)
    (λ t q rest has. goes_supply Joins joins_same joins_then m seed
    (λ u need source k is there. let has = in_get (sources m u need) k source there in source_joins m u need source (turn_is m u need source is has) (suits m u need source has)) rest t q))
    (λ t q rest has. goes_values Joins joins_same joins_then m seed t q rest
    (record { firsts = λ all. all; claims = blank_steps m (claim_blanks m t.actions) (with_firsts m t); values = λ u h. blank_steps m (value_blanks m t.actions) u }))

has_stood : (s t : Scenario) (r : Reading) → Stands Joins s r → HasRead (answer_of r) t → Joins s t
has_stood s t (Wants u n) on has = subst (Joins s) has on
has_stood s t Stops on has = absurd has
has_stood s t (Reads u p []) on has = subst (Joins s) has on
has_stood s t (Reads u p (d ∷ left)) on has = absurd has

open_ends_of : (acts : List Act) → AreJoined acts → JoinOpenEnds acts
open_ends_of acts all = record {
  sources = λ a r b q filled is e.
      let s = all.0.there a r b q (bare filled) (bare_from acts a r filled is) e in
      let g = bare_of acts b q s.source s.is in
      record { other = s.other; source = g.0; is = g.1; fits = ap (λ (v : Bare). is_source_for filled.flow v.flow) g.2 ∙ s.fits; pool = ap (λ (v : Bare). v.pool) g.2 ∙ s.pool };
  streams = λ a r b q one other is stream e at. all.1.back a r b q (bare one) (bare other) (bare_from acts a r one is) stream e (bare_from acts b q other at);
  once = λ a r b q one other is at f g p e some. all.0.once a r b q (bare one) (bare other) (bare_from acts a r one is) (bare_from acts b q other at) f g p e some;
  first = λ a r filled is e. all.1.first a r (bare filled) (bare_from acts a r filled is) e;
  needless = λ a r filled is none. all.1.needless a r (bare filled) (bare_from acts a r filled is) none;
}

pub links_join : LinksJoinOpenEnds
links_join m root seed level choices s has =
    let start = nothing_yet level in
    let joins : Joins start s = has_stood start s (read_all m seed root start 0 choices)
    (stands Joins start (read_all m seed root start 0 choices) (λ more. read_all m seed root start 0 (choices ++ more)) (goes_all m seed root start 0 choices)) has in
    open_ends_of s.actions (joins (open_links [] (λ a r x at. absurd (none-some x at)), open_ends [] (λ a r x at. absurd (none-some x at))))
