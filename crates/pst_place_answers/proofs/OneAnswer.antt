-- At most one answer with one text is right.
use Rattle.std.proofs.Common.{◌≡◌, ◌∙◌, ℕ, List, Some, slice_get, refl, sym, ap}
use Rattle.std.proofs.lemmas.Option.{same_Some}
use Rattle.pst_model.specs.ModelTree.{ModelTree}
use Rattle.pst_scen.specs.declared.scenario.Scenario.{Scenario}
use Rattle.pst_scen.specs.Plan.{Entries}
use Rattle.pst_scen.specs.Plans.{IsPlanOf}
use Rattle.pst_addr.specs.declared.ask.Ask.{Ask}
use Rattle.pst_addr.specs.declared.ask.Space.{Space}
use Rattle.pst_addr.specs.Asks.{asks_of}
use Rattle.pst_addr.specs.Laws.{PlacesAreOne, PlacedOrNot, NoRoomIsOne, AsksAreOfPlan}
use Rattle.pst_place_answers.specs.declared.answer.PlaceAnswer.{PlaceAnswer}
use Rattle.pst_place_answers.specs.declared.answer.PlaceAnswer.TheVariants.{NoRoom}
use Rattle.pst_place_answers.specs.Texts.{placed_text, no_room_text}
use Rattle.pst_place_answers.specs.Shown.{ShowsPlaces, AllHavePlaces, OneHasNone, PlaceAnswersAreOne}
use Rattle.pst_place_answers.proofs.Plans.{AreWithin, are_within, placed_too, without_too}

same_ask : (asks : List Ask) (n k : ℕ) (one other : Ask) → n ≡ k → slice_get asks n ≡ Some one → slice_get asks k ≡ Some other → one ≡ other
same_ask asks n k one other same is other_is = same_Some one other (sym is ∙ ap (slice_get asks) same ∙ other_is)

module _ (lists : PlacesAreOne) (either : PlacedOrNot) (rooms : NoRoomIsOne) (names : List (List ℕ)) (m : ModelTree) (s : Scenario) (p q : Entries) (space : Space) (first : IsPlanOf s p) (second : IsPlanOf s q)
    (within : AreWithin s (asks_of names m s)) where
  abbrev asks : List Ask
  asks = asks_of names m s

  shown_one : (a b : PlaceAnswer) (t u : List ℕ) → ShowsPlaces names m s p space a t → ShowsPlaces names m s q space b u → (a ≡ b) × (t ≡ u)
  shown_one _ _ _ _ (AllHavePlaces places h) (AllHavePlaces others k) =
      (refl, ap (λ (v : List ℕ). placed_text names m s asks v) (lists p space asks places others h (placed_too s q p second first space asks within others k)))
  shown_one _ _ _ _ (AllHavePlaces places h) (OneHasNone number w) = absurd (either p space asks places number h (without_too s q p second first space asks within number w))
  shown_one _ _ _ _ (OneHasNone number w) (AllHavePlaces places h) = absurd (either p space asks places number (placed_too s q p second first space asks within places h) w)
  shown_one _ _ _ _ (OneHasNone n w) (OneHasNone k v) =
      let same : n ≡ k = rooms p space asks n k w (without_too s q p second first space asks within k v) in
      let one : w.ask ≡ v.ask = same_ask asks n k w.ask v.ask same w.is v.is in
      (ap (λ (ask : Ask). NoRoom ask.action) one, ap (λ (ask : Ask). no_room_text ask.action) one)

pub answers_one : PlacesAreOne → PlacedOrNot → NoRoomIsOne → AsksAreOfPlan → PlaceAnswersAreOne
answers_one lists either rooms asks names m s p q space a b t u first second h k =
    shown_one lists either rooms names m s p q space first second (are_within s p (asks_of names m s) first (asks names m s p first.entries.many).0) a b t u h k
