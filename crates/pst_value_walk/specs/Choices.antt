-- The choices of a walk: what each did, and what stands at the end of them.
use Rattle.std.specs.Prelude.{◌≡◌, ℕ, ℤ, ◌+◌, ◌<◌, List, [], ◌∷◌, ◌++◌, length, map, nat_lt, if◌then◌else◌, Option, Some, None, slice_get}
use Rattle.pst_rng.specs.Words.{start_of}
use Rattle.pst_expr.specs.declared.ranges.Span.{Span}
use Rattle.pst_model.specs.declared.model.Model.{Model}
use Rattle.pst_model.specs.ModelTree.{ModelTree}
use Rattle.pst_scen.specs.declared.next.Next.{Next}
use Rattle.pst_scen.specs.declared.next.Next.TheVariants as next
use Rattle.pst_scen.specs.declared.scenario.Scenario.{Scenario}
use Rattle.pst_legal.specs.Blanks.{Blank, options}
use Rattle.pst_legal.specs.Reading.{option_at}
use Rattle.pst_legal.specs.ValueReading.{with_option, with_firsts}
use Rattle.pst_blanks.specs.declared.blank.Place.{Place}
use Rattle.pst_blanks.specs.Blanks.{blank_of, all_blanks, blank_value, IsDomainOf}
use Rattle.pst_blanks.specs.Placed.{ArePlaced, AreRising}
use Rattle.pst_blanks.specs.Filling.{cleared}
use Rattle.pst_model.specs.ModelView.{view_model}
use Rattle.pst_value_walk.specs.Walks.{Kept, IfRead, answer, blank_at}

-- the digits, of choices latest first
abbrev pub digits_of : List ℕ → List ℕ
digits_of [] = []
digits_of (digit ∷ older) = digits_of older ++ digit ∷ []

abbrev pub cleared_at : Option Blank → Scenario → Scenario
cleared_at None s = s
cleared_at (Some blank) s = cleared blank s

-- the scenario before the choices, latest first, each of which filled the blank of its number
abbrev pub before : List Blank → List ℕ → Scenario → Scenario
before blanks [] s = s
before blanks (digit ∷ older) s = before blanks older (cleared_at (slice_get blanks (length older)) s)

-- the blank is that of its number, the digit names an option of it, and that option was put there
pub record IsChoice (m : ModelTree) (seed place : ℕ) (blanks : List Blank) (number digit : ℕ) (old new : Scenario) : Type 0 where
  pub blank : Blank
  pub is : slice_get blanks number ≡ Some blank
  pub below : digit < options m old.actions blank
  pub filled : new ≡ with_option m (option_at (start_of seed (place + number) (options m old.actions blank)) (options m old.actions blank) digit) blank old

-- each choice was one, latest first
abbrev pub AreChoices : ModelTree → ℕ → ℕ → List Blank → List ℕ → Scenario → Type 0
AreChoices m seed place blanks [] s = Unit {0}
AreChoices m seed place blanks (digit ∷ older) s =
    IsChoice m seed place blanks (length older) digit (cleared_at (slice_get blanks (length older)) s) s
    × AreChoices m seed place blanks older (cleared_at (slice_get blanks (length older)) s)

-- the option that a digit names of a blank
abbrev pub option_of : ModelTree → ℕ → ℕ → Scenario → Blank → ℕ → ℕ
option_of m seed place s blank digit = option_at (start_of seed place (options m s.actions blank)) (options m s.actions blank) digit

-- the value of that option
abbrev pub value_by : ModelTree → ℕ → ℕ → Scenario → Blank → ℕ → ℤ
value_by m seed place s blank digit = blank_value m s.actions blank (option_of m seed place s blank digit)

-- the value of the option of the blank of that number that a digit names
pub record IsNamed (m : ModelTree) (seed place : ℕ) (blanks : List Blank) (number digit : ℕ) (s : Scenario) (v : ℤ) : Type 0 where
  pub blank : Blank
  pub is : slice_get blanks number ≡ Some blank
  pub value : v ≡ value_by m seed (place + number) s blank digit

-- so it is at the blank at hand
pub record IsValueOf (k : Kept) (digit : ℕ) (v : ℤ) : Type 0 where
  pub blank : Blank
  pub is : blank_at k (length k.choices) ≡ Some blank
  pub value : IfRead (answer k) (λ s. v ≡ value_by (view_model k.model) k.seed (k.place + length k.choices) s blank digit)

-- the blank of that number is one for a value, which may have these values
pub record HasDomainOf (m : ModelTree) (blanks : List Blank) (number : ℕ) (s : Scenario) (spans : List Span) : Type 0 where
  pub blank : Blank
  pub is : slice_get blanks number ≡ Some blank
  pub domain : IsDomainOf m s.actions blank spans

-- so is the blank at hand
pub record IsDomainAt (k : Kept) (spans : List Span) : Type 0 where
  pub blank : Blank
  pub is : blank_at k (length k.choices) ≡ Some blank
  pub domain : IfRead (answer k) (λ s. IsDomainOf (view_model k.model) s.actions blank spans)

-- there is a blank of that number, and the digit names one of its options
pub record HasOption (m : ModelTree) (blanks : List Blank) (number digit : ℕ) (s : Scenario) : Type 0 where
  pub blank : Blank
  pub is : slice_get blanks number ≡ Some blank
  pub below : digit < options m s.actions blank

abbrev pub shown_by : ModelTree → Scenario → Option Blank → Next
shown_by m s None = next.Whole
shown_by m s (Some blank) = if nat_lt 0 (options m s.actions blank) then next.Options (options m s.actions blank) else next.Dead

-- what a walk that has made these choices, latest first, began from: without what they filled in, and without first objects
abbrev pub begun : List Place → List ℕ → Scenario → Scenario
begun places made s = record (before (map blank_of places) made s) { firsts = [] }

-- the walk of a model with these choices, latest first
abbrev pub kept_at : Model → ℕ → ℕ → List Place → List ℕ → Scenario → Kept
kept_at model seed place places made s = record { model = model; linked = begun places made s; seed = seed; place = place; choices = digits_of made }

-- a walk stands so after choices, latest first
pub record Stands (m : ModelTree) (seed place : ℕ) (places : List Place) (made : List ℕ) (s : Scenario) : Type 0 where
  pub blanks : map blank_of places ≡ all_blanks m (before (map blank_of places) made s).actions
  pub firsts : before (map blank_of places) made s ≡ with_firsts m (begun places made s)
  pub choices : AreChoices m seed place (map blank_of places) made s
  pub placed : ArePlaced m s places
  pub rising : AreRising s
