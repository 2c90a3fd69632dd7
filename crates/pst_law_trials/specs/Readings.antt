-- All that lists of choices read whole.
use Rattle.std.specs.Prelude.{ℕ, zero, suc, List, [], ◌∷◌, ◌++◌, Bool, flat_map}
use Rattle.std.specs.List.{filter, list_all, range_with_len}
use Rattle.pst_model.specs.ModelTree.{ModelTree}
use Rattle.pst_scen.specs.declared.scenario.Scenario.{Scenario}
use Rattle.pst_legal.specs.Pieces.{is_true}
use Rattle.pst_legal.specs.Constraints.{value_at}
use Rattle.pst_legal.specs.ValueReading.{Answer, Options, Dead, Whole, read}
use Rattle.pst_slots.specs.Listed.{Stating, constraints_of}

abbrev pub by_answer : Answer → (ℕ → List Scenario) → List Scenario
by_answer (Options so_far n) next = flat_map next (range_with_len 0 n)
by_answer Dead next = []
by_answer (Whole scenario) next = scenario ∷ []

-- what lists that begin with these choices read whole, with so many choices more at most, in the order of the lists
abbrev pub readings_from : ModelTree → ℕ → ℕ → ℕ → ℕ → List ℕ → List Scenario
readings_from m root seed level zero choices = []
readings_from m root seed level (suc more) choices = by_answer (read m root seed level choices) (λ digit. readings_from m root seed level more (choices ++ digit ∷ []))

-- what lists of the level read whole under seed 1, for models whose lists have at most nine choices
abbrev pub readings : ModelTree → ℕ → ℕ → List Scenario
readings m root level = readings_from m root 1 level 10 []

abbrev pub is_held : Stating → Bool
is_held one = is_true (value_at one.constraint one.standing)

-- all its constraints hold
abbrev pub holds : ModelTree → Scenario → Bool
holds m s = list_all is_held (constraints_of m s)

-- those in which all constraints hold
abbrev pub held_readings : ModelTree → ℕ → ℕ → List Scenario
held_readings m root level = filter (holds m) (readings m root level)
