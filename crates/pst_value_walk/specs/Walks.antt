-- What a walk through claimed instances and values keeps, and what its list of choices reads.
use Rattle.std.specs.Prelude.{◌≡◌, ℕ, ◌<◌, List, [], ◌∷◌, ◌++◌, length, Option, Some, None, slice_get}
use Rattle.pst_model.specs.declared.model.Model.{Model}
use Rattle.pst_model.specs.ModelView.{view_model}
use Rattle.pst_scen.specs.declared.next.Next.{Next}
use Rattle.pst_scen.specs.declared.next.Next.TheVariants as next
use Rattle.pst_scen.specs.declared.scenario.Scenario.{Scenario}
use Rattle.pst_legal.specs.Blanks.{Blank as Read}
use Rattle.pst_legal.specs.ValueReading.{Answer, Options, Dead, Whole, answer_of, with_option, read_values}
use Rattle.pst_blanks.specs.declared.blank.Blank.{Blank}
use Rattle.pst_blanks.specs.Blanks.{read_blank, all_blanks}

-- the model, the scenario that the sources came to, without first objects, the seed, the number of the first place and the choices
pub record Kept : Type 0 where
  pub model : Model
  pub linked : Scenario
  pub seed : ℕ
  pub place : ℕ
  pub choices : List ℕ

abbrev pub with_choice : Kept → ℕ → Kept
with_choice k digit = record k { choices = k.choices ++ digit ∷ [] }

-- what the choices read of claims and values
abbrev pub answer : Kept → Answer
answer k = answer_of (read_values (view_model k.model) k.seed k.linked k.place k.choices)

abbrev pub next_of : Answer → Next
next_of (Options s n) = next.Options n
next_of Dead = next.Dead
next_of (Whole s) = next.Whole

-- a fact on what is read so far, where it isn't a dead end
abbrev pub IfRead : Answer → (Scenario → Type 0) → Type 0
IfRead (Options s n) P = P s
IfRead Dead P = Unit {0}
IfRead (Whole s) P = P s

-- there is a place with that digit
abbrev pub HasDigit : Answer → ℕ → Type 0
HasDigit (Options s n) digit = digit < n
HasDigit Dead digit = ⊥
HasDigit (Whole s) digit = ⊥

-- the blank of that number among all
abbrev pub blank_at : Kept → ℕ → Option Read
blank_at k n = slice_get (all_blanks (view_model k.model) k.linked.actions) n

abbrev pub IsBlank : Option Blank → Option Read → Type 0
IsBlank None o = o ≡ None
IsBlank (Some blank) o = o ≡ Some (read_blank blank)

-- The blank that the last choice filled, none where there is no choice: one of its options stands there now, and all else is as the
-- choices before it have read it.
abbrev pub IsFilled : Kept → Option Blank → Type 0
IsFilled k None = k.choices ≡ []
IsFilled k (Some blank) =
    (before : List ℕ) × (digit : ℕ) × (k.choices ≡ before ++ digit ∷ []) × (blank_at k (length before) ≡ Some (read_blank blank))
    × IfRead (answer k) (λ s. IfRead (answer (record k { choices = before })) (λ t. (option : ℕ) × (s ≡ with_option (view_model k.model) option (read_blank blank) t)))
