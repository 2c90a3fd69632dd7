-- One pass over the ranges.
use Rattle.std.proofs.Common.{◌≡◌, ℕ, ◌+◌, ◌%◌, ◌<◌, ◌≤◌, ◌^◌, List, length, get_or, Option, Some, None, subst, ap, ◌∙◌, inl, inr, ⊎_elim, arith}
use Rattle.std.specs.Prelude.{MatchOption}
use Rattle.std.proofs.lemmas.Bool.{cases_lt}
use Rattle.std.proofs.lemmas.List.{get_or_default}
use Rattle.pst_scen.specs.Plan.{Entries}
use Rattle.pst_addr.specs.declared.ask.Ask.{Ask}
use Rattle.pst_addr.specs.declared.ask.Space.{Space}
use Rattle.pst_addr.specs.declared.ask.Range.{Range}
use Rattle.pst_addr.specs.Places.{Meet, IsLeast}
use Rattle.pst_addr.specs.Ranges.{IsMultipleFrom, AreSorted, FitsAmong, IsPast, Stays, Moves, NothingIsPast, IsReached}

-- where a range that meets the ask ends behind the address
pub moved : (p : Entries) (ask : Ask) (address : ℕ) (range : Range) (next : Option ℕ) → Meet p ask.action range.action → address < range.high
    → MatchOption next ((other : ℕ) → IsMultipleFrom range.high ask.align other → 2 ^ 64 ≤ other) (IsLeast (IsMultipleFrom range.high ask.align))
    → MatchOption next (NothingIsPast p ask address range) (IsPast p ask address range)
moved p ask address range None meets before none = record { meets = meets; before = before; none = none }
moved p ask address range (Some next) meets before first = Moves next meets before first

module _ (p : Entries) (space : Space) (ranges : List Range) (ask : Ask) where
  -- it begins at the first aligned address of the space
  pub begins : (address : ℕ) → IsLeast (IsMultipleFrom space.base ask.align) address → IsReached p space ranges ask 0 address
  begins address first = record {
    aligned = first.holds.1;
    above = first.holds.0;
    passed = λ k d l m. absurd (omega (arith, l));
    least = λ other f. first.least other (f.above, f.aligned);
  }

  pub none_at_all : space.base + space.size < 2 ^ 64 → ((other : ℕ) → IsMultipleFrom space.base ask.align other → 2 ^ 64 ≤ other) → (other : ℕ) → FitsAmong p space ranges ask other → ⊥
  none_at_all small none other f = let h = none other (f.above, f.aligned) in let i = f.inside in omega (arith, h, i, small)

  module _ (count address : ℕ) (reached : IsReached p space ranges ask count address) where
    -- nothing fits any more
    pub too_high : (last : ℕ) → last + ask.size ≡ space.base + space.size → last < address → (other : ℕ) → FitsAmong p space ranges ask other → ⊥
    too_high last e l other f = let r = reached.least other f in let i = f.inside in omega (arith, e, l, r, i)

    -- what is left lies behind the bytes
    pub stops : (last : ℕ) → last + ask.size ≡ space.base + space.size → address ≤ last
        → ((k : ℕ) (d : Range) → count ≤ k → k < length ranges → address + ask.size ≤ (get_or ranges k d).low) → IsLeast (FitsAmong p space ranges ask) address
    stops last e l behind = record {
      holds = record {
        aligned = reached.aligned;
        above = reached.above;
        inside = omega (arith, e, l);
        clear = λ k d h meets. ⊎_elim (λ before. inr (reached.passed k d before meets)) (λ on. inl (behind k d on h)) (cases_lt k count);
      };
      least = reached.least;
    }

    pub stops_before : (d : Range) (last : ℕ) → last + ask.size ≡ space.base + space.size → address ≤ last → AreSorted ranges → count < length ranges → address + ask.size ≤ (get_or ranges count d).low
        → IsLeast (FitsAmong p space ranges ask) address
    stops_before d last e l sorted inside h = stops last e l (λ k d' on within.
        let s : (get_or ranges count d').low ≤ (get_or ranges k d').low = sorted count k d' on within in
        let same : (get_or ranges count d).low ≡ (get_or ranges count d').low = ap (λ (r : Range). r.low) (get_or_default ranges count d d' inside) in
        omega (arith, s, h, same))

    module _ (d : Range) (inside : count < length ranges) (not_behind : (get_or ranges count d).low < address + ask.size) where
      abbrev range : Range
      range = get_or ranges count d

      -- whatever fits lies behind a range that is in the way
      beyond : Meet p ask.action range.action → (other : ℕ) → FitsAmong p space ranges ask other → range.high ≤ other
      beyond meets other f =
          let r = reached.least other f in
          ⊎_elim (λ h. absurd (omega (arith, h, r, not_behind))) (λ h. h) (f.clear count d inside meets)

      pub nothing_past : space.base + space.size < 2 ^ 64 → NothingIsPast p ask address range → (other : ℕ) → FitsAmong p space ranges ask other → ⊥
      nothing_past small n other f =
          let h = n.none other (beyond n.meets other f, f.aligned) in
          let i = f.inside in
          omega (arith, h, i, small)

      one_on : (next : ℕ) → address ≤ next → next % ask.align ≡ 0 → (Meet p ask.action range.action → range.high ≤ next) → ((other : ℕ) → FitsAmong p space ranges ask other → next ≤ other)
          → IsReached p space ranges ask (count + 1) next
      one_on next up aligned ends least = record {
        aligned = aligned;
        above = let a = reached.above in omega (arith, a, up);
        passed = λ k d' l.
            ⊎_elim (λ before meets. let h = reached.passed k d' before meets in omega (arith, h, up))
            (λ on. let e : count ≡ k = omega (arith, l, on) in
            subst (λ (r : Range). Meet p ask.action r.action → r.high ≤ next) (get_or_default ranges count d d' inside ∙ ap (λ n. get_or ranges n d') e) ends)
            (cases_lt k count);
        least = least;
      }

      pub goes_on : (next : ℕ) → IsPast p ask address range next → IsReached p space ranges ask (count + 1) next
      goes_on _ (Stays ends) = one_on address (omega arith) reached.aligned ends reached.least
      goes_on _ (Moves next meets before first) =
          one_on next (let a = first.holds.0 in omega (arith, a, before)) first.holds.1 (λ m. first.holds.0) (λ other f. first.least other (beyond meets other f, f.aligned))
