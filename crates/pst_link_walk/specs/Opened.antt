-- Actions that are kept with open references.
use Rattle.std.specs.Prelude.{◌≡◌, ℕ, ◌≤◌, List, length, take, Some, slice_get}
use Rattle.pst_model.specs.declared.model.Model.{Model}
use Rattle.pst_scen.specs.declared.act.Act.{Act}
use Rattle.pst_scen.specs.declared.scenario.Scenario.{Scenario}
use Rattle.pst_legal.specs.Reading.{Wants}
use Rattle.pst_legal.specs.ValueReading.{Answer, Options, Dead, Whole}
use Rattle.pst_link_walk.specs.Walks.{tree_reading}

-- where both have an action of a number, it is the same
abbrev pub Agree : List Act → List Act → Type 0
Agree kept acts = (k : ℕ) (x y : Act) → slice_get kept k ≡ Some x → slice_get acts k ≡ Some y → x ≡ y

-- they are those of what each beginning of the choices reads of the activity, as far as both go
abbrev pub AreOpened : Model → ℕ → ℕ → ℕ → List ℕ → List Act → Type 0
AreOpened m root seed level choices kept =
    (k : ℕ) (s : Scenario) (n : ℕ) → k ≤ length choices → tree_reading m root seed level (take k choices) ≡ Wants s n → Agree kept s.actions

-- there is a place
abbrev pub IsOptions : Answer → Type 0
IsOptions (Options s n) = Unit {0}
IsOptions Dead = ⊥
IsOptions (Whole s) = ⊥
