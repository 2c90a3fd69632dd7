-- What is shown is right.
use Rattle.std.proofs.Common.{◌≡◌, ℕ, ◌<◌, ◌≤◌, List, length, get_or, Some, refl, inl, sym, subst, arith}
use Rattle.std.specs.Prelude.{Option, None, Result, Ok, Err, IfOk, MatchOption, string_bytes}
use Rattle.std.proofs.lemmas.Option.{get_or_from_slice_get, slice_get_within}
use Rattle.pst_base.specs.declared.memory.NoMemory.{NoMemory}
use Rattle.pst_model.specs.ModelTree.{ModelTree}
use Rattle.pst_scen.specs.declared.scenario.Scenario.{Scenario}
use Rattle.pst_scen.specs.Plan.{Entries}
use Rattle.pst_trace_texts.specs.Elements.{HasHeader}
use Rattle.pst_addr.specs.declared.ask.Ask.{Ask}
use Rattle.pst_addr.specs.declared.ask.Space.{Space}
use Rattle.pst_addr.specs.Places.{ArePlaced, HasNoRoom}
use Rattle.pst_place_answers.specs.declared.answer.PlaceAnswer.{PlaceAnswer}
use Rattle.pst_place_answers.specs.declared.answer.PlaceAnswer.TheVariants.{Placed, NoRoom}
use Rattle.pst_place_answers.specs.declared.answer.ShownPlaces.{ShownPlaces}
use Rattle.pst_place_answers.specs.Texts.{placed_text, no_room_text}
use Rattle.pst_place_answers.specs.Shown.{Says, ShowsAsks, AllHavePlaces, OneHasNone}

-- each scenario has a header in format 2
pub no_header : {T : Type 0} (m : ModelTree) (s : Scenario) (found : Option T) (P : T → Type 0) → found ≡ None → MatchOption found (HasHeader 2 m s → ⊥) P → ⊥
no_header m s None P is none = none (inl refl)
no_header m s (Some text) P is some = absurd cc

module _ (names : List (List ℕ)) (m : ModelTree) (s : Scenario) (plan : Entries) (space : Space) (asks : List Ask) where
  abbrev IsRight : ShownPlaces → Type 0
  IsRight shown = ShowsAsks names m s plan space asks shown.answer (string_bytes shown.text)

  said : (answer : PlaceAnswer) (text : List ℕ) (shown : ShownPlaces) → ShowsAsks names m s plan space asks answer text → Says answer text shown → IsRight shown
  said answer text shown right says =
      subst (λ (a : PlaceAnswer). ShowsAsks names m s plan space asks a (string_bytes shown.text)) (sym says.answer_is) (subst (ShowsAsks names m s plan space asks answer) (sym says.text_is) right)

  pub placed_shown : (places : List ℕ) (r : Result ShownPlaces NoMemory) → ArePlaced plan space asks places → IfOk r (Says (Placed (length asks)) (placed_text names m s asks places)) → IfOk r IsRight
  placed_shown places (Ok shown) are says = said (Placed (length asks)) (placed_text names m s asks places) shown (AllHavePlaces places are) says
  placed_shown places (Err e) are says = tt

  pub no_room_shown : (number : ℕ) (d : Ask) (r : Result ShownPlaces NoMemory) → HasNoRoom plan space asks number
      → IfOk r (Says (NoRoom (get_or asks number d).action) (no_room_text (get_or asks number d).action)) → IfOk r IsRight
  no_room_shown number d (Ok shown) without says =
      let same : get_or asks number d ≡ without.ask = get_or_from_slice_get asks number without.ask d without.is in
      said (NoRoom without.ask.action) (no_room_text without.ask.action) shown (OneHasNone number without)
      (subst (λ (ask : Ask). Says (NoRoom ask.action) (no_room_text ask.action) shown) same says)
  no_room_shown number d (Err e) without says = tt

  pub number_in : (number : ℕ) → HasNoRoom plan space asks number → number < length asks
  number_in number without = slice_get_within asks number without.ask without.is

  pub enough : (places : List ℕ) → ArePlaced plan space asks places → length asks ≤ length places
  enough places are = let all = are.all in omega (arith, all)
