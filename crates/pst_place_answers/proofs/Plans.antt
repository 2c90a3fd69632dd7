-- Asks have the same places by two plans of one scenario.
use Rattle.std.proofs.Common.{◌≡◌, ℕ, ◌<◌, List, length, get_or, take, Some, slice_get, inl, inr, subst}
use Rattle.std.proofs.lemmas.Option.{get_or_from_slice_get, slice_get_within}
use Rattle.pst_scen.specs.declared.scenario.Scenario.{Scenario}
use Rattle.pst_scen.specs.Plan.{Entries}
use Rattle.pst_scen.specs.Plans.{IsPlanOf}
use Rattle.pst_addr.specs.declared.ask.Ask.{Ask}
use Rattle.pst_addr.specs.declared.ask.Space.{Space}
use Rattle.pst_addr.specs.Places.{Meet, Fits, AreFirst, ArePlaced, HasNoRoom, IsAsk, AreAsks}

meet_too : (s : Scenario) (p q : Entries) → IsPlanOf s p → IsPlanOf s q → (a b : ℕ) → a < length s.actions → b < length s.actions → Meet p a b → Meet q a b
meet_too s p q first second a b a_in b_in (inl same) = inl same
meet_too s p q first second a b a_in b_in (inr (before, behind, conflict)) =
    inr (
      λ h. before ((first.entries.must a b a_in b_in).1 ((second.entries.must a b a_in b_in).0 h)),
      λ h. behind ((first.entries.must b a b_in a_in).1 ((second.entries.must b a b_in a_in).0 h)),
      λ h. conflict ((first.entries.conflict a b a_in b_in).1 ((second.entries.conflict a b a_in b_in).0 h)),
    )

-- the asks are of actions of the scenario
abbrev pub AreWithin : Scenario → List Ask → Type 0
AreWithin s asks = (k : ℕ) (ask : Ask) → slice_get asks k ≡ Some ask → ask.action < length s.actions

pub are_within : (s : Scenario) (p : Entries) (asks : List Ask) → IsPlanOf s p → AreAsks p asks → AreWithin s asks
are_within s p asks planned are k ask is =
    let its : IsAsk p ask = subst (IsAsk p) (get_or_from_slice_get asks k ask ask is) (are k ask (slice_get_within asks k ask is)) in
    subst (λ n. ask.action < n) planned.entries.many its.action

module _ (s : Scenario) (p q : Entries) (first : IsPlanOf s p) (second : IsPlanOf s q) (space : Space) (asks : List Ask) (within : AreWithin s asks) where
  fits_too : (places : List ℕ) (k : ℕ) (ask : Ask) (address : ℕ) → slice_get asks k ≡ Some ask → Fits p space asks places ask address → Fits q space asks places ask address
  fits_too places k ask address is f = record {
    aligned = f.aligned;
    above = f.above;
    inside = f.inside;
    clear = λ j earlier l is_earlier meets. f.clear j earlier l is_earlier (meet_too s q p second first ask.action earlier.action (within k ask is) (within j earlier is_earlier) meets);
  }

module _ (s : Scenario) (p q : Entries) (first : IsPlanOf s p) (second : IsPlanOf s q) (space : Space) (asks : List Ask) (within : AreWithin s asks) where
  first_too : (places : List ℕ) → AreFirst p space asks places → AreFirst q space asks places
  first_too places are = record {
    few = are.few;
    each = λ k ask l is. record {
      holds = fits_too s p q first second space asks within (take k places) k ask (get_or places k 0) is (are.each k ask l is).holds;
      least = λ other f. (are.each k ask l is).least other (fits_too s q p second first space asks within (take k places) k ask other is f);
    };
  }

  pub placed_too : (places : List ℕ) → ArePlaced p space asks places → ArePlaced q space asks places
  placed_too places are = record { first = first_too places are.first; all = are.all }

  pub without_too : (number : ℕ) → HasNoRoom p space asks number → HasNoRoom q space asks number
  without_too number w = record {
    places = w.places;
    first = first_too w.places w.first;
    count = w.count;
    ask = w.ask;
    is = w.is;
    none = λ address f. w.none address (fits_too s q p second first space asks within w.places number w.ask address w.is f);
  }
