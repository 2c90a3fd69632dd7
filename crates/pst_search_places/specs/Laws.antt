-- Conflicts that name places behind the sources, and what these places rest on.
use Rattle.std.specs.Prelude.{◌≡◌, ℕ, ◌+◌, ◌<◌, ◌⊎◌, List, [], ◌∷◌, ◌++◌, length, true, Contains}
use Rattle.pst_model.specs.ModelTree.{ModelTree}
use Rattle.pst_scen.specs.declared.scenario.Scenario.{Scenario}
use Rattle.pst_scen.specs.Refusals.{IsUnrefused}
use Rattle.pst_legal.specs.Reading.{Reads}
use Rattle.pst_legal.specs.Constraints.{Holds}
use Rattle.pst_legal.specs.ValueReading.{Options, with_firsts}
use Rattle.pst_legal.specs.First.{ReadsLegal}
use Rattle.pst_few_places.specs.Fillings.{all_blanks, AreOptions, filled, named}
use Rattle.pst_few_places.specs.Laws.{AgreeAt}
use Rattle.pst_search_loop.specs.declared.conflict.Conflict.{Conflict}
use Rattle.pst_search_loop.specs.Conflicts.{Has, IsAmong, IsEarlier}
use Rattle.pst_search_loop.specs.Kept.{Kept, answer, FactsHold, IsConflict, Rests, Excludes}
use Rattle.pst_search_places.specs.Facts.{sources_of, place_facts}

-- choices stand for places
abbrev pub IsByPlaces : Kept → Type 0
IsByPlaces k = k.facts ≡ place_facts k.model k.root k.seed

-- the choices up to the end of the sources, what they read, and the choices behind them
pub record IsBehind (k : Kept) (front present : List ℕ) (u : Scenario) : Type 0 where
  pub choices : k.choices ≡ front ++ present
  pub reads : sources_of k.model k.root k.seed k.level front ≡ Reads u (length front) []

-- the last of so many places, if there is one
abbrev pub IsLast : List ℕ → ℕ → Type 0
IsLast places front = ((p : ℕ) → p + 1 ≡ front → IsAmong places p) × ((p : ℕ) → IsAmong places p → p < front)

-- the last place up to the sources, and some behind them, which are counted from there, on one level
pub record IsOfPlaces (c : Conflict) (front : ℕ) (places : List ℕ) : Type 0 where
  pub last : (p : ℕ) → p + 1 ≡ front → Has c p
  pub named : (i : ℕ) → Contains places i → Has c (front + i)
  pub within : (p : ℕ) → Has c p → (p < front) ⊎ ((i : ℕ) × Contains places i × (p ≡ front + i))
  pub on_level : c.on_level ≡ true

-- no options that agree at these places with those that the present choices name keep all constraints, and aren't refused by a plan
abbrev pub NoneHold : ModelTree → ℕ → Scenario → ℕ → List ℕ → List ℕ → Type 0
NoneHold m seed u place present places =
    (chosen : List ℕ) → AreOptions m u.actions (all_blanks m u) chosen → AgreeAt places chosen (named m seed u.actions (all_blanks m u) place present)
    → Holds m (filled m (all_blanks m u) chosen (with_firsts m u)) → IsUnrefused (filled m (all_blanks m u) chosen (with_firsts m u)) → ⊥

-- ---- laws

-- What each choice of a list stands for holds of that list.
abbrev pub PlaceFactsHold : Type 0
PlaceFactsHold = (m : ModelTree) (root seed : ℕ) → FactsHold (place_facts m root seed)

-- Where no list that begins with these choices reads a legal scenario, all their places are a conflict.
abbrev pub BarrenListsConflict : Type 0
BarrenListsConflict =
    (k : Kept) (c : Conflict) → IsByPlaces k → IsEarlier c (length k.choices)
    → ((more : List ℕ) (s : Scenario) → ReadsLegal k.model k.root k.seed k.level (k.choices ++ more) s → ⊥) → IsConflict k c

-- A place rests on all places before it.
abbrev pub PlacesRestOnEarlierOnes : Type 0
PlacesRestOnEarlierOnes =
    (k : Kept) (c : Conflict) (s : Scenario) (n : ℕ) → IsByPlaces k → IsEarlier c (length k.choices) → answer k ≡ Options s n → Rests k n c

-- Where no options that agree at some places are kept by all constraints and a plan, these places, and the last one up to the
-- sources, are a conflict.
abbrev pub FewPlacesConflict : Type 0
FewPlacesConflict =
    (k : Kept) (c : Conflict) (front present places : List ℕ) (u : Scenario) → IsByPlaces k → IsBehind k front present u
    → ((i : ℕ) → Contains places i → i < length present) → NoneHold k.model k.seed u (length front) present places
    → IsOfPlaces c (length front) places → IsConflict k c

-- Where it is so with one more choice, at its place and at some before it, no legal scenario that agrees at these and at the last
-- one up to the sources has that choice's option.
abbrev pub FewPlacesExclude : Type 0
FewPlacesExclude =
    (k : Kept) (c : Conflict) (front present places : List ℕ) (digit : ℕ) (u : Scenario) → IsByPlaces k → IsBehind k front present u
    → ((i : ℕ) → Contains places i → i < length present) → NoneHold k.model k.seed u (length front) (present ++ digit ∷ []) (length present ∷ places)
    → IsOfPlaces c (length front) places → Excludes k c digit

-- A place behind the sources rests on the last one up to them alone.
abbrev pub PlacesRestOnTheSources : Type 0
PlacesRestOnTheSources =
    (k : Kept) (c : Conflict) (front present : List ℕ) (u s : Scenario) (n : ℕ) → IsByPlaces k → IsBehind k front present u
    → IsOfPlaces c (length front) [] → answer k ≡ Options s n → Rests k n c
