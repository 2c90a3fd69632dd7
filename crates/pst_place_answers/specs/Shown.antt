-- Which answer of places with which text is right.
use Rattle.std.specs.Prelude.{◌≡◌, ℕ, List, length, string_bytes}
use Rattle.pst_model.specs.ModelTree.{ModelTree}
use Rattle.pst_scen.specs.declared.scenario.Scenario.{Scenario}
use Rattle.pst_scen.specs.Plan.{Entries}
use Rattle.pst_scen.specs.Plans.{IsPlanOf}
use Rattle.pst_addr.specs.declared.ask.Ask.{Ask}
use Rattle.pst_addr.specs.declared.ask.Space.{Space}
use Rattle.pst_addr.specs.Places.{ArePlaced, HasNoRoom}
use Rattle.pst_addr.specs.Asks.{asks_of}
use Rattle.pst_place_answers.specs.declared.answer.PlaceAnswer.{PlaceAnswer}
use Rattle.pst_place_answers.specs.declared.answer.PlaceAnswer.TheVariants.{Placed, NoRoom}
use Rattle.pst_place_answers.specs.declared.answer.ShownPlaces.{ShownPlaces}
use Rattle.pst_place_answers.specs.Texts.{placed_text, no_room_text}

-- this answer and this text are shown
pub record Says (answer : PlaceAnswer) (text : List ℕ) (shown : ShownPlaces) : Type 0 where
  pub answer_is : shown.answer ≡ answer
  pub text_is : string_bytes shown.text ≡ text

-- The asks have these addresses in the space, or one of them is the first without an address.
pub data ShowsAsks (names : List (List ℕ)) (m : ModelTree) (s : Scenario) (plan : Entries) (space : Space) (asks : List Ask) : PlaceAnswer → List ℕ → Type 0 where
  AllHavePlaces : (places : List ℕ) → ArePlaced plan space asks places → ShowsAsks names m s plan space asks (Placed (length asks)) (placed_text names m s asks places)
  OneHasNone : (number : ℕ) (without : HasNoRoom plan space asks number) → ShowsAsks names m s plan space asks (NoRoom without.ask.action) (no_room_text without.ask.action)

-- The same of what the scenario's actions ask for.
abbrev pub ShowsPlaces : List (List ℕ) → ModelTree → Scenario → Entries → Space → PlaceAnswer → List ℕ → Type 0
ShowsPlaces names m s plan space = ShowsAsks names m s plan space (asks_of names m s)

-- at most one answer with one text is right for a scenario, whose plan may be held in two ways
abbrev pub PlaceAnswersAreOne : Type 0
PlaceAnswersAreOne =
    (names : List (List ℕ)) (m : ModelTree) (s : Scenario) (plan again : Entries) (space : Space) (one other : PlaceAnswer) (t u : List ℕ)
    → IsPlanOf s plan → IsPlanOf s again → ShowsPlaces names m s plan space one t → ShowsPlaces names m s again space other u → (one ≡ other) × (t ≡ u)
