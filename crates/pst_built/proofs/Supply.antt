-- What a scenario keeps while its needs get their sources.
use Rattle.std.proofs.Common.{◌≡◌, ℕ, zero, suc, ◌+◌, ◌<◌, ◌≤◌, List, [], ◌∷◌, ◌++◌, length, map, replicate, Bool, true, false, not, ◌&&◌, ◌||◌, nat_eq, nat_lt, if◌then◌else◌, Option, Some, None, refl, sym, ap, ◌∙◌, subst, ⊎_elim, arith, length-append, append_assoc, append-nil}
use Rattle.std.specs.Prelude.{slice_get}
use Rattle.std.specs.List.{range_with_len}
use Rattle.std.specs.Option.{option_map}
use Rattle.std.proofs.lemmas.List.{map-append, length-map}
use Rattle.std.proofs.lemmas.Option.{none-some, slice_get-map}
use Rattle.std.proofs.lemmas.Bool.{false≢true, eqb-true, eqb-false, ltb-true, not-true, and_parts, and_from, or_left, or_cases, both_ways}
use Rattle.pst_model.specs.ModelTree.{ModelTree}
use Rattle.pst_scen.specs.declared.act.Act.{Act}
use Rattle.pst_scen.specs.declared.act.Filled.{Filled}
use Rattle.pst_scen.specs.declared.act.Flow.{Flow}
use Rattle.pst_scen.specs.declared.act.Flow.TheVariants.{BufferIn, BufferOut, StreamIn, StreamOut, StateIn, StateOut}
use Rattle.pst_scen.specs.declared.act.Link.{Link}
use Rattle.pst_scen.specs.declared.act.Link.TheVariants as link
use Rattle.pst_scen.specs.declared.scenario.Scenario.{Scenario}
use Rattle.pst_scen.specs.Scenarios.{reference_at, leaves_of}
use Rattle.pst_legal.specs.Growing.{open_act, most_acts, IsWithin}
use Rattle.pst_legal.specs.Supplied.{is_need}
use Rattle.pst_legal.specs.Reading.{Stops, Reads, Reader}
use Rattle.pst_legal.specs.SupplyReading.{Spot, spots, same_link, is_open, fixed_for, is_elsewhere, has_turn, next_need, Source, Initially, From, New, is_state, is_writer, is_stream, fits, inferred, may_infer, sources_by, sources, put_link, linked_to, supplied_by, end_supply, chosen, read_turn, read_supply}
use Rattle.pst_built.proofs.Gives.{Gives, gives_if, gives_seeded}
use Rattle.pst_built.proofs.Bares.{Bare, bare, bares_in, bares, bare_at, bare_from, bare_of, node_in, nodes_in, bares_put, nodes_put}
use Rattle.pst_built.proofs.Parents.{parents, InOrder}
use Rattle.pst_built.proofs.Opens.{IsOpenRow, act_is_open, bare_cases, bares_push}
use Rattle.pst_built.proofs.Members.{In, in_if, in_get, in_find, none_found}
use Rattle.pst_built.proofs.Links.{bare_within, Links, open_links, push_links, put_links}
use Rattle.pst_built.proofs.Ends.{Ends, open_ends, push_ends, put_ends}
use Rattle.pst_built.proofs.Linking.{IsTurn, open_need, Pairs, paired, paired_ends, nodes_linked}
use Rattle.pst_built.proofs.Spots.{spot_is, to_spot, IsFresh, fresh, Suits, suits}
use Rattle.pst_built.proofs.Trees.{Grown}

-- the nodes stand in preorder, the actions are those of the leaves and then inferred ones, and the links are sound
pub record Joined (level : ℕ) (s : Scenario) : Type 0 where
  pub of_level : s.level ≡ level
  pub order : InOrder (parents s.nodes)
  pub numbers : map (λ e. e.0) (leaves_of s.nodes) ≡ range_with_len 0 (length (leaves_of s.nodes))
  pub more : ℕ
  pub acts : nodes_in s.actions ≡ map (λ e. Some e.1) (leaves_of s.nodes) ++ replicate more None
  pub within : IsWithin s.nodes s.actions
  pub links : Links (bares s.actions)
  pub ends : Ends (bares s.actions)

pub joined_first : (level : ℕ) (s : Scenario) → Grown level s → IsWithin s.nodes s.actions → Joined level s
joined_first level s grown within = record {
  of_level = grown.of_level;
  order = grown.order;
  numbers = grown.numbers;
  more = 0;
  acts = grown.acts ∙ sym (append-nil (map (λ e. Some e.1) (leaves_of s.nodes)));
  within = within;
  links = open_links (bares s.actions) grown.unlinked;
  ends = open_ends (bares s.actions) grown.unlinked;
}

pub same_length : (one other : List Act) → nodes_in one ≡ nodes_in other → length one ≡ length other
same_length one other same = sym (length-map one node_in) ∙ ap length same ∙ length-map other node_in

-- links that are changed
relinked : (level : ℕ) (s : Scenario) (acts : List Act) → Joined level s → nodes_in acts ≡ nodes_in s.actions → Links (bares acts) → Ends (bares acts)
    → Joined level (record s { actions = acts })
relinked level s acts joined same links ends = record {
  of_level = joined.of_level;
  order = joined.order;
  numbers = joined.numbers;
  more = joined.more;
  acts = same ∙ joined.acts;
  within = record { few_nodes = joined.within.few_nodes; few_acts = subst (λ k. k ≤ most_acts) (sym (same_length acts s.actions same)) joined.within.few_acts };
  links = links;
  ends = ends;
}

replicate_push : {A : Type 0} (n : ℕ) (x : A) → replicate n x ++ x ∷ [] ≡ replicate (n + 1) x
replicate_push n x = let e : suc n ≡ n + 1 = omega arith in go n ∙ ap (λ k. replicate k x) e
  where
    go : (k : ℕ) → replicate k x ++ x ∷ [] ≡ replicate (suc k) x
    go zero = refl
    go (suc k) = ap (λ xs. x ∷ xs) (go k)

-- an inferred action more
pushed : (m : ModelTree) (level : ℕ) (s : Scenario) (action instance : ℕ) → Joined level s → may_infer s ≡ true
    → Joined level (record s { actions = s.actions ++ open_act m action instance None ∷ [] })
pushed m level s action instance joined may =
    let act = open_act m action instance None in
    let few : length s.actions < most_acts = ltb-true (length s.actions) most_acts (and_parts (nat_lt (inferred s) s.level) (nat_lt (length s.actions) most_acts) may).1 in
    record {
      of_level = joined.of_level;
      order = joined.order;
      numbers = joined.numbers;
      more = joined.more + 1;
      acts = map-append node_in s.actions (act ∷ [])
          ∙ ap (λ ns. ns ++ None ∷ []) joined.acts
          ∙ append_assoc (map (λ e. Some e.1) (leaves_of s.nodes)) (replicate joined.more None) (None ∷ [])
          ∙ ap (λ ns. map (λ e. Some e.1) (leaves_of s.nodes) ++ ns) (replicate_push joined.more None);
      within = record { few_nodes = joined.within.few_nodes; few_acts = omega (arith, few, length-append s.actions (act ∷ [])) };
      links = subst Links (sym (bares_push s.actions act)) (push_links (bares s.actions) (bares_in act) joined.links (act_is_open m action instance None));
      ends = subst Ends (sym (bares_push s.actions act)) (push_ends (bares s.actions) (bares_in act) joined.links joined.ends (act_is_open m action instance None));
    }

-- ---- a need that gets its source

no_act : (b q : ℕ) → link.Initial ≡ link.Act b q → ⊥
no_act b q e = cc

previous_false : (writer previous : Bool) → not (writer && previous) ≡ true → writer ≡ true → previous ≡ false
previous_false true true e is = absurd (false≢true e)
previous_false true false e is = refl
previous_false false previous e is = absurd (false≢true is)

-- an output that wants a previous writer
writes : (flow : Flow) → flow ≡ StateOut → (is_writer flow ≡ true) × (is_stream flow ≡ false)
writes flow e = (ap is_writer e, ap is_stream e)

free_if : (stream opened : Bool) (rest : Bool) → (if stream then opened else rest) ≡ true → stream ≡ false → rest ≡ true
free_if true opened rest e is = absurd (false≢true (sym is))
free_if false opened rest e is = e

open_if : (stream opened : Bool) (rest : Bool) → (if stream then opened else rest) ≡ true → stream ≡ true → opened ≡ true
open_if true opened rest e is = e
open_if false opened rest e is = absurd (false≢true is)

open_link : (l : Link) → same_link l link.Nothing ≡ true → l ≡ link.Nothing
open_link link.Nothing e = refl
open_link link.Initial e = absurd (false≢true e)
open_link (link.Act a r) e = absurd (false≢true e)

no_stream : (flow : Flow) → is_state flow ≡ true → is_stream flow ≡ false
no_stream StateIn e = refl
no_stream StateOut e = refl
no_stream BufferIn e = refl
no_stream BufferOut e = refl
no_stream StreamIn e = absurd (false≢true e)
no_stream StreamOut e = absurd (false≢true e)

initially : (m : ModelTree) (level : ℕ) (s : Scenario) (need : Spot) → Joined level s → IsTurn s.actions need → Suits m s need Initially → Joined level (supplied_by m s need Initially)
initially m level s need joined turn suit =
    let test = and_parts (is_state need.filled.flow) _ suit in
    relinked level s (put_link need.act need.reference link.Initial s.actions) joined (nodes_put need.act need.reference link.Initial s.actions)
    (subst Links (sym (bares_put need.act need.reference link.Initial s.actions))
    (put_links (bares s.actions) need.act need.reference (bare need.filled) link.Initial joined.links (bare_from s.actions need.act need.reference need.filled turn.at) (record {
      there = λ b q e. absurd (no_act b q e);
      fresh = λ flow. fresh s.actions need.filled.pool link.Initial (previous_false (is_writer need.filled.flow) _ test.1 (writes need.filled.flow flow).0);
    })))
    (subst Ends (sym (bares_put need.act need.reference link.Initial s.actions))
    (put_ends (bares s.actions) need.act need.reference (bare need.filled) link.Initial joined.ends (open_need s.actions need turn) (no_stream need.filled.flow test.0) (λ e. test.0)))

from : (m : ModelTree) (level : ℕ) (s : Scenario) (need : Spot) (b q : ℕ) → Joined level s → IsTurn s.actions need → Suits m s need (From b q) → Joined level (supplied_by m s need (From b q))
from m level s need b q joined turn suit =
    let p = and_parts (not (nat_eq b need.act)) _ suit.2 in
    let f = and_parts (fits need.filled suit.0) _ p.1 in
    let pairs : Pairs s.actions need b q = record {
      turn = turn;
      source = suit.0;
      is = suit.1;
      other = eqb-false b need.act (not-true (nat_eq b need.act) p.0);
      fitting = f.0;
      unlinked = λ stream. open_link suit.0.link (open_if (is_stream need.filled.flow) _ _ f.1 stream);
      free = λ flow. fresh s.actions need.filled.pool (link.Act b q)
          (previous_false (is_writer need.filled.flow) _ (free_if (is_stream need.filled.flow) _ _ f.1 (writes need.filled.flow flow).1) (writes need.filled.flow flow).0);
    } in
    relinked level s (linked_to need b q s.actions) joined (nodes_linked need b q s.actions) (paired s.actions need b q pairs joined.links) (paired_ends s.actions need b q pairs joined.links joined.ends)

-- ---- a new action as a source

pub reference_more : (acts : List Act) (act : Act) (a r : ℕ) (filled : Filled) → reference_at acts a r ≡ Some filled → reference_at (acts ++ act ∷ []) a r ≡ Some filled
reference_more [] act a r filled is = absurd (none-some filled is)
reference_more (x ∷ xs) act zero r filled is = is
reference_more (x ∷ xs) act (suc a) r filled is = reference_more xs act a r filled is

pub reference_last : (acts : List Act) (act : Act) (r : ℕ) → reference_at (acts ++ act ∷ []) (length acts) r ≡ slice_get act.references r
reference_last [] act r = refl
reference_last (x ∷ xs) act r = reference_last xs act r

-- no link names the number of an action that isn't there yet
none_behind : (rows : List (List Bare)) (row : List Bare) (pool q : ℕ) → Links rows → IsOpenRow row → IsFresh (rows ++ row ∷ []) pool (link.Act (length rows) q)
none_behind rows row pool q links unlinked b r y at flow same e =
    ⊎_elim
    (λ old. let s = links.there b r (length rows) q y old e in let l = bare_within rows (length rows) q s.source s.is in absurd (omega (arith, l)))
    (λ new. let none : link.Nothing ≡ link.Act (length rows) q = sym (unlinked r y new.1) ∙ e in nothing none)
    (bare_cases rows row b r y at)
  where
    nothing : link.Nothing ≡ link.Act (length rows) q → ⊥
    nothing none = cc

new : (m : ModelTree) (level : ℕ) (s : Scenario) (need : Spot) (action instance q : ℕ) → Joined level s → IsTurn s.actions need → Suits m s need (New action instance q)
    → Joined level (supplied_by m s need (New action instance q))
new m level s need action instance q joined turn suit =
    let act = open_act m action instance None in
    let acts = s.actions ++ act ∷ [] in
    let grown = pushed m level s action instance joined suit.may in
    let l : need.act < length s.actions = omega (arith, bare_within (bares s.actions) need.act need.reference (bare need.filled) (bare_from s.actions need.act need.reference need.filled turn.at), length-map s.actions bares_in) in
    let pairs : Pairs acts need (length s.actions) q = record {
      turn = record { at = reference_more s.actions act need.act need.reference need.filled turn.at; unlinked = turn.unlinked; needs = turn.needs };
      source = suit.filled;
      is = reference_last s.actions act q ∙ suit.at;
      other = λ e. absurd (omega (arith, l, e));
      fitting = suit.fitting;
      unlinked = λ stream. act_is_open m action instance None q (bare suit.filled) (slice_get-map bare act.references q ∙ ap (option_map bare) suit.at);
      free = λ flow. subst (λ rows. IsFresh rows need.filled.pool (link.Act (length s.actions) q)) (sym (bares_push s.actions act))
          (subst (λ k. IsFresh (bares s.actions ++ bares_in act ∷ []) need.filled.pool (link.Act k q)) (length-map s.actions bares_in)
          (none_behind (bares s.actions) (bares_in act) need.filled.pool q joined.links (act_is_open m action instance None)));
    } in
    relinked level (record s { actions = acts }) (linked_to need (length s.actions) q acts) grown (nodes_linked need (length s.actions) q acts)
    (paired acts need (length s.actions) q pairs grown.links) (paired_ends acts need (length s.actions) q pairs grown.links grown.ends)

supplied : (m : ModelTree) (level : ℕ) (s : Scenario) (need : Spot) (source : Source) → Joined level s → IsTurn s.actions need → Suits m s need source → Joined level (supplied_by m s need source)
supplied m level s need Initially joined turn suit = initially m level s need joined turn suit
supplied m level s need (From b q) joined turn suit = from m level s need b q joined turn suit
supplied m level s need (New action instance q) joined turn suit = new m level s need action instance q joined turn suit

-- A need that has a source to choose isn't linked yet: one that is linked against its bind has none.
by_bind : (m : ModelTree) (s : Scenario) (need : Spot) (bound : Option (ℕ × ℕ)) (source : Source) → In source (sources_by m s need bound) → (is_open need || is_elsewhere bound need) ≡ true → is_open need ≡ true
by_bind m s need None source has e = ⊎_elim (λ opened. opened) (λ none. absurd (false≢true none)) (or_cases (is_open need) false e)
by_bind m s need (Some bound) source has e = (in_if (is_open need) _ source has).0

turn_is : (m : ModelTree) (s : Scenario) (need : Spot) (source : Source) → next_need m s ≡ Some need → In source (sources m s need) → IsTurn s.actions need
turn_is m s need source is has =
    let f = in_find (has_turn m s) (spots s.actions) need is in
    let p = and_parts (is_need need.filled.flow) (is_open need || is_elsewhere (fixed_for m s need) need) f.1 in
    record { at = spot_is s.actions need f.0; unlinked = open_link need.filled.link (by_bind m s need (fixed_for m s need) source has p.1); needs = p.0 }

-- ---- the end

-- each need has a link
abbrev pub AreLinked : List (List Bare) → Type 0
AreLinked rows = (a r : ℕ) (x : Bare) → bare_at rows a r ≡ Some x → is_need x.flow ≡ true → x.link ≡ link.Nothing → ⊥

-- a scenario whose needs have their sources
pub record IsSupplied (level : ℕ) (s : Scenario) : Type 0 where
  pub joined : Joined level s
  pub many : inferred s ≡ s.level
  pub all : AreLinked (bares s.actions)

by_filled : (m : ModelTree) (s : Scenario) → next_need m s ≡ None → (a r : ℕ) (f : Filled) → reference_at s.actions a r ≡ Some f → is_need f.flow ≡ true → f.link ≡ link.Nothing → ⊥
by_filled m s none a r f is need e =
    let spot : Spot = record { act = a; reference = r; filled = f } in
    both_ways (has_turn m s spot) (none_found (has_turn m s) (spots s.actions) spot none (to_spot s.actions a r f is))
    (and_from (is_need f.flow) (is_open spot || is_elsewhere (fixed_for m s spot) spot) need
    (or_left (is_open spot) (is_elsewhere (fixed_for m s spot) spot) (ap (λ l. same_link l link.Nothing) e)))

all_linked : (m : ModelTree) (s : Scenario) → next_need m s ≡ None → AreLinked (bares s.actions)
all_linked m s none a r x at need e =
    let f = bare_of s.actions a r x at in
    by_filled m s none a r f.0 f.1 (ap (λ (v : Bare). is_need v.flow) f.2 ∙ need) (ap (λ (v : Bare). v.link) f.2 ∙ e)

-- What each need's source keeps, and what holds where no need has a turn any more, holds of the scenario that is read.
module _ (m : ModelTree) (seed : ℕ) (P Q : Scenario → Type 0)
    (step : (s : Scenario) (need : Spot) (source : Source) → P s → IsTurn s.actions need → Suits m s need source → P (supplied_by m s need source))
    (done : (s : Scenario) → P s → next_need m s ≡ None → inferred s ≡ s.level → Q s) where
  end_gives : (s : Scenario) (place : ℕ) (left : List ℕ) → P s → next_need m s ≡ None → Gives Q (end_supply s place left)
  end_gives s place left holds none =
      gives_if Q (nat_eq (inferred s) s.level) (Reads s place left) Stops (λ test. done s holds none (eqb-true (inferred s) s.level test)) tt

  chosen_gives : (need : Spot) (source : Option Source) (go : Reader) (s : Scenario) (place : ℕ) (left : List ℕ) → P s → next_need m s ≡ Some need
      → ((k : Source) → source ≡ Some k → In k (sources m s need))
      → ((t : Scenario) (next : ℕ) (rest : List ℕ) → P t → Gives Q (go t next rest))
      → Gives Q (chosen m need source go s place left)
  chosen_gives need None go s place left holds is has each = tt
  chosen_gives need (Some source) go s place left holds is has each =
      each (supplied_by m s need source) place left (step s need source holds (turn_is m s need source is (has source refl)) (suits m s need source (has source refl)))

  turn_gives : (need : Option Spot) (go : Reader) (s : Scenario) (place : ℕ) (left : List ℕ) → P s → next_need m s ≡ need
      → ((t : Scenario) (next : ℕ) (rest : List ℕ) → P t → Gives Q (go t next rest))
      → Gives Q (read_turn m seed need go s place left)
  turn_gives None go s place left holds is each = end_gives s place left holds is
  turn_gives (Some need) go s place left holds is each =
      gives_seeded Q seed (length (sources m s need)) (λ k. chosen m need (slice_get (sources m s need) k) go) s place left
      (λ k next rest. chosen_gives need (slice_get (sources m s need) k) go s next rest holds is (λ source e. in_get (sources m s need) k source e) each)

  pub gives_supply : (s : Scenario) (place : ℕ) (left : List ℕ) → P s → Gives Q (read_supply m seed s place left)
  gives_supply s place [] holds = turn_gives (next_need m s) (λ s place left. Stops) s place [] holds refl (λ t next rest more. tt)
  gives_supply s place (digit ∷ left) holds =
      turn_gives (next_need m s) (λ more next rest. read_supply m seed more next left) s place (digit ∷ left) holds refl
      (λ t next rest more. gives_supply t next left more)

pub supply_gives : (m : ModelTree) (seed level : ℕ) (s : Scenario) (place : ℕ) (left : List ℕ) → Joined level s → Gives (IsSupplied level) (read_supply m seed s place left)
supply_gives m seed level =
    gives_supply m seed (Joined level) (IsSupplied level) (λ s need source joined turn suit. supplied m level s need source joined turn suit)
    (λ s joined none many. record { joined = joined; many = many; all = all_linked m s none })
