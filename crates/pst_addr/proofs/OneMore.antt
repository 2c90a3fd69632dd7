-- The ranges of asks that have a place, and one more of them.
use Rattle.std.proofs.Common.{◌≡◌, ◌⊎◌, ℕ, ◌+◌, ◌<◌, ◌≤◌, List, [], ◌∷◌, ◌++◌, length, get_or, take, drop, Some, slice_get, refl, sym, ap, ◌∙◌, subst, ⊎_elim, arith, length-append}
use Rattle.std.specs.Prelude.{All, Contains, Bool, false}
use Rattle.std.specs.List.{insert}
use Rattle.std.proofs.lemmas.Bool.{cases_lt}
use Rattle.std.proofs.lemmas.List.{get_or_append_left, get_or_push, take-append-le, take_at}
use Rattle.std.proofs.lemmas.List.Edits.{length-insert, get_or-insert_below, get_or-insert_at, get_or-insert_above}
use Rattle.std.proofs.lemmas.List.Elements.{All-append, All-cons, All-take, All-drop, All-weaker, All-contains}
use Rattle.std.proofs.lemmas.List.Sorted.{IsNonDecreasingBy-insert}
use Rattle.std.proofs.lemmas.Option.{same_Some, slice_get-get_or, get_or_from_slice_get, slice_get_within}
use Rattle.pst_scen.specs.Plan.{Entries}
use Rattle.pst_addr.specs.declared.ask.Ask.{Ask}
use Rattle.pst_addr.specs.declared.ask.Space.{Space}
use Rattle.pst_addr.specs.declared.ask.Range.{Range}
use Rattle.pst_addr.specs.Places.{Meet, Fits, IsLeast, IsPlaced, AreFirst, ArePlaced, HasNoRoom, IsAsk, AreAsks}
use Rattle.pst_addr.specs.Ranges.{range_of, IsRangeOf, IsMetLater, AreRangesOf, IsInsertion, FitsAmong}
use Rattle.pst_addr.specs.Columns.{IsMetNoMore, IsAdded, Stands, IsLeft}

-- ---- an inserted item

old_in_insert : {X : Type 0} (xs : List X) (at : ℕ) (y x : X) → at ≤ length xs → Contains xs x → Contains (insert xs at y) x
old_in_insert xs at y x inside (k, l, e) =
    let n = length-insert xs at y inside in
    ⊎_elim (λ b. (k, omega (arith, l, n), get_or-insert_below xs at y x k b inside ∙ e)) (λ b. (k + 1, omega (arith, l, n), get_or-insert_above xs at y x k b inside ∙ e)) (cases_lt k at)

new_in_insert : {X : Type 0} (xs : List X) (at : ℕ) (y : X) → at ≤ length xs → Contains (insert xs at y) y
new_in_insert xs at y inside = let n = length-insert xs at y inside in (at, omega (arith, inside, n), get_or-insert_at xs at y y inside)

all_insert : {X : Type 0} (P : X → Type 0) (xs : List X) (at : ℕ) (y : X) → All P xs → P y → All P (insert xs at y)
all_insert P xs at y all one = All-append P (take at xs) (y ∷ drop at xs) (All-take P at xs all) (All-cons P y (drop at xs) one (All-drop P at xs all))

-- ---- an address fits the asks where it fits among the ranges of those that have a place

module _ (p : Entries) (space : Space) (asks : List Ask) (places : List ℕ) (ranges : List Range) (are : AreRangesOf p asks places ranges) (ask : Ask) (is_now : slice_get asks (length places) ≡ Some ask) where
  abbrev IsClearOf : ℕ → Range → Type 0
  IsClearOf address range = Meet p ask.action range.action → (address + ask.size ≤ range.low) ⊎ (range.high ≤ address)

  to_among : (address : ℕ) → Fits p space asks places ask address → FitsAmong p space ranges ask address
  to_among address f = record {
    aligned = f.aligned;
    above = f.above;
    inside = f.inside;
    clear = λ k d l. let one = are.only k d l in subst (IsClearOf address) (sym one.range_is) (f.clear one.number one.ask one.below one.is);
  }

  from_among : (address : ℕ) → FitsAmong p space ranges ask address → Fits p space asks places ask address
  from_among address f = record {
    aligned = f.aligned;
    above = f.above;
    inside = f.inside;
    clear = λ k earlier l is meets.
        let later : IsMetLater p asks places earlier.action = record { number = length places; behind = omega arith; ask = ask; is = is_now; meets = meets } in
        All-contains (IsClearOf address) ranges (range_of earlier (get_or places k 0)) f.clear (are.each k earlier l is later) meets;
  }

  pub placed_among : (address : ℕ) → IsLeast (FitsAmong p space ranges ask) address → IsPlaced p space asks places ask address
  placed_among address least = record { holds = from_among address least.holds; least = λ other f. least.least other (to_among other f) }

  pub none_among : ((address : ℕ) → FitsAmong p space ranges ask address → ⊥) → (address : ℕ) → Fits p space asks places ask address → ⊥
  none_among none address f = none address (to_among address f)

-- their actions are those of asks
module _ (p : Entries) (asks : List Ask) (places : List ℕ) (ranges : List Range) (are : AreRangesOf p asks places ranges) where
  pub ranges_in : AreAsks p asks → All (λ (range : Range). range.action < length p.groups) ranges
  ranges_in all k d l =
      let one = are.only k d l in
      let inside = slice_get_within asks one.number one.ask one.is in
      let its : IsAsk p one.ask = subst (IsAsk p) (get_or_from_slice_get asks one.number one.ask one.ask one.is) (all one.number one.ask inside) in
      subst (λ (range : Range). range.action < length p.groups) (sym one.range_is) its.action

-- ---- one more

module _ (p : Entries) (space : Space) (asks : List Ask) (places : List ℕ) (ask : Ask) (address : ℕ) (is : slice_get asks (length places) ≡ Some ask) where
  abbrev more : List ℕ
  more = places ++ address ∷ []

  many : length more ≡ length places + 1
  many = length-append places (address ∷ [])

  old_place : (k : ℕ) → k < length places → get_or more k 0 ≡ get_or places k 0
  old_place k l = get_or_append_left places (address ∷ []) 0 k l

  new_place : get_or more (length places) 0 ≡ address
  new_place = get_or_push places address 0 (length places) refl

  -- an ask that has a place then has one now, or it is the new one
  same_ask : (other : Ask) → slice_get asks (length places) ≡ Some other → ask ≡ other
  same_ask other at = same_Some ask other (sym is ∙ at)

  pub first_more : AreFirst p space asks places → IsPlaced p space asks places ask address → AreFirst p space asks more
  first_more first placed = record {
    few = let l = slice_get_within asks (length places) ask is in omega (arith, l, many);
    each = λ k other h at.
        ⊎_elim
        (λ b. subst (λ v. IsPlaced p space asks v other (get_or more k 0)) (sym (take-append-le k places (address ∷ []) (omega (arith, b))))
        (subst (IsPlaced p space asks (take k places) other) (sym (old_place k b)) (first.each k other b at)))
        (λ b. let e : length places ≡ k = omega (arith, b, h, many) in
        let same = same_ask other (subst (λ n. slice_get asks n ≡ Some other) (sym e) at) in
        subst (λ n. IsPlaced p space asks (take n more) other (get_or more n 0)) e
        (subst (λ v. IsPlaced p space asks v other (get_or more (length places) 0)) (sym (take_at places (address ∷ []) (length places) refl))
        (subst (IsPlaced p space asks places other) (sym new_place) (subst (λ v. IsPlaced p space asks places v address) same placed))))
        (cases_lt k (length places));
  }

  old_range : (range : Range) → IsRangeOf asks places range → IsRangeOf asks more range
  old_range range one = record {
    number = one.number;
    below = let l = one.below in omega (arith, l, many);
    ask = one.ask;
    is = one.is;
    range_is = one.range_is ∙ ap (range_of one.ask) (sym (old_place one.number one.below));
  }

  new_range : IsRangeOf asks more (range_of ask address)
  new_range = record { number = length places; below = omega (arith, many); ask = ask; is = is; range_is = ap (range_of ask) (sym new_place) }

  -- what is met later now was so before
  met_before : (action : ℕ) → IsMetLater p asks more action → IsMetLater p asks places action
  met_before action met = record { number = met.number; behind = let b = met.behind in omega (arith, b, many); ask = met.ask; is = met.is; meets = met.meets }

  ranges_with : (ranges : List Range) (at : ℕ) → AreRangesOf p asks places ranges → IsInsertion ranges address at → AreRangesOf p asks more (insert ranges at (range_of ask address))
  ranges_with ranges at are goes = record {
    each = λ k other h is_other met.
        ⊎_elim
        (λ b. subst (λ v. Contains (insert ranges at (range_of ask address)) (range_of other v)) (sym (old_place k b))
        (old_in_insert ranges at (range_of ask address) (range_of other (get_or places k 0)) goes.inside (are.each k other b is_other (met_before other.action met))))
        (λ b. let e : length places ≡ k = omega (arith, b, h, many) in
        let same = same_ask other (subst (λ n. slice_get asks n ≡ Some other) (sym e) is_other) in
        subst (λ n. Contains (insert ranges at (range_of ask address)) (range_of other (get_or more n 0))) e
        (subst (λ v. Contains (insert ranges at (range_of ask address)) (range_of v (get_or more (length places) 0))) same
        (subst (λ v. Contains (insert ranges at (range_of ask address)) (range_of ask v)) (sym new_place) (new_in_insert ranges at (range_of ask address) goes.inside))))
        (cases_lt k (length places));
    only = all_insert (IsRangeOf asks more) ranges at (range_of ask address) (All-weaker (IsRangeOf asks places) (IsRangeOf asks more) old_range ranges are.only) new_range;
    sorted = IsNonDecreasingBy-insert (λ (range : Range). range.low) ranges at (range_of ask address) are.sorted goes.inside goes.before goes.behind;
  }

  ranges_without : (ranges : List Range) → AreRangesOf p asks places ranges → IsMetNoMore p asks (length places) → AreRangesOf p asks more ranges
  ranges_without ranges are no_more = record {
    each = λ k other h is_other met.
        ⊎_elim
        (λ b. subst (λ v. Contains ranges (range_of other v)) (sym (old_place k b)) (are.each k other b is_other (met_before other.action met)))
        (λ b. let e : length places ≡ k = omega (arith, b, h, many) in
        let here = subst (λ n. slice_get asks n ≡ Some other) (sym e) is_other in
        let behind = met.behind in
        absurd (no_more met.number other met.ask (omega (arith, behind, many)) here met.is met.meets))
        (cases_lt k (length places));
    only = All-weaker (IsRangeOf asks places) (IsRangeOf asks more) old_range ranges are.only;
    sorted = are.sorted;
  }

  pub ranges_more : (needed : Bool) (ranges new_ranges : List Range) → AreRangesOf p asks places ranges → (needed ≡ false → IsMetNoMore p asks (length places)) → IsAdded needed ranges (range_of ask address) new_ranges
      → AreRangesOf p asks more new_ranges
  ranges_more needed ranges new_ranges are no_more (Stands at goes e) = subst (AreRangesOf p asks more) (sym e) (ranges_with ranges at are goes)
  ranges_more needed ranges new_ranges are no_more (IsLeft none e) = subst (AreRangesOf p asks more) (sym e) (ranges_without ranges are (no_more none))

-- ---- as the loop says it

pub record AreSoFar (p : Entries) (space : Space) (asks : List Ask) (places : List ℕ) (ranges : List Range) (count : ℕ) : Type 0 where
  pub first : AreFirst p space asks places
  pub many : length places ≡ count
  pub are : AreRangesOf p asks places ranges

module _ (p : Entries) (space : Space) (asks : List Ask) (places : List ℕ) (ranges : List Range) (k : ℕ) (so_far : AreSoFar p space asks places ranges k) (d : Ask) (inside : k < length asks) where
  abbrev ask : Ask
  ask = get_or asks k d

  is_next : slice_get asks (length places) ≡ Some ask
  is_next = subst (λ n. slice_get asks n ≡ Some ask) (sym so_far.many) (slice_get-get_or asks k d inside)

  pub placed_on : (address : ℕ) (new_places : List ℕ) (needed : Bool) (new_ranges : List Range) → IsLeast (FitsAmong p space ranges ask) address
      → (needed ≡ false → IsMetNoMore p asks k) → IsAdded needed ranges (range_of ask address) new_ranges → new_places ≡ places ++ address ∷ [] → AreSoFar p space asks new_places new_ranges (k + 1)
  placed_on address new_places needed new_ranges least no_more added places_are =
      let placed = placed_among p space asks places ranges so_far.are ask is_next address least in
      let longer = length-append places (address ∷ []) in
      let count = so_far.many in
      subst (λ v. AreSoFar p space asks v new_ranges (k + 1)) (sym places_are)
      (record {
        first = first_more p space asks places ask address is_next so_far.first placed;
        many = omega (arith, longer, count);
        are = ranges_more p space asks places ask address is_next needed ranges new_ranges so_far.are (λ none. subst (IsMetNoMore p asks) (sym count) (no_more none)) added;
      })

  pub without : ((address : ℕ) → FitsAmong p space ranges ask address → ⊥) → HasNoRoom p space asks k
  without none = record {
    places = places;
    first = so_far.first;
    count = so_far.many;
    ask = ask;
    is = slice_get-get_or asks k d inside;
    none = none_among p space asks places ranges so_far.are ask is_next none;
  }

-- none has a place at first
pub none_so_far : (p : Entries) (space : Space) (asks : List Ask) (places : List ℕ) (ranges : List Range) → places ≡ [] → ranges ≡ [] → AreSoFar p space asks places ranges 0
none_so_far p space asks places ranges places_are ranges_are =
    subst (λ v. AreSoFar p space asks v ranges 0) (sym places_are)
    (subst (λ v. AreSoFar p space asks [] v 0) (sym ranges_are)
    (record {
      first = record { few = omega arith; each = λ k ask l is. absurd (omega (arith, l)) };
      many = refl;
      are = record { each = λ k ask l is met. absurd (omega (arith, l)); only = λ k d l. absurd (omega (arith, l)); sorted = λ i j d l h. absurd (omega (arith, h)) };
    }))

pub all_placed : (p : Entries) (space : Space) (asks : List Ask) (places : List ℕ) (ranges : List Range) (k : ℕ) → AreSoFar p space asks places ranges k → length asks ≤ k → ArePlaced p space asks places
all_placed p space asks places ranges k so_far end =
    let count = so_far.many in
    let few = so_far.first.few in
    record { first = so_far.first; all = omega (arith, count, few, end) }
