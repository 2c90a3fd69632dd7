-- What a whole list of choices reads.
use Rattle.std.specs.Prelude.{◌≡◌, ℕ, ℤ, ◌+◌, List, [], ◌++◌, length, Some, slice_get}
use Rattle.pst_expr.specs.declared.ranges.Span.{Span}
use Rattle.pst_model.specs.ModelView.{view_model}
use Rattle.pst_scen.specs.declared.scenario.Scenario.{Scenario}
use Rattle.pst_legal.specs.Blanks.{Blank}
use Rattle.pst_legal.specs.Reading.{Reads}
use Rattle.pst_legal.specs.ValueReading.{Answer, Options, Dead, Whole, read}
use Rattle.pst_shape.specs.Walks.{IfRead}
use Rattle.pst_blanks.specs.Blanks.{all_blanks, IsDomainOf}
use Rattle.pst_value_walk.specs.Choices.{value_by}
use Rattle.pst_link_walk.specs.Walks.{Kept, reading}

abbrev pub answer : Kept → Answer
answer k = read (view_model k.model) k.root k.seed k.level k.choices

-- the list comes to no dead end
abbrev pub IsRead : Answer → Type 0
IsRead (Options s n) = Unit {0}
IsRead Dead = ⊥
IsRead (Whole s) = Unit {0}

-- So many choices read the activity and the sources.
pub record HasFront (k : Kept) (n : ℕ) : Type 0 where
  pub front : List ℕ
  pub present : List ℕ
  pub choices : k.choices ≡ front ++ present
  pub count : n ≡ length front
  pub linked : Scenario
  pub reads : reading (record k { choices = front }) ≡ Reads linked (length front) []

-- Behind the sources, the value of the option of the blank at hand that a digit names.
pub record HasValue (k : Kept) (digit : ℕ) (v : ℤ) : Type 0 where
  pub front : List ℕ
  pub present : List ℕ
  pub choices : k.choices ≡ front ++ present
  pub linked : Scenario
  pub reads : reading (record k { choices = front }) ≡ Reads linked (length front) []
  pub blank : Blank
  pub is : slice_get (all_blanks (view_model k.model) linked.actions) (length present) ≡ Some blank
  pub value : IfRead (answer k) (λ s. v ≡ value_by (view_model k.model) k.seed (length front + length present) s blank digit)

-- Behind the sources, the blank at hand is one for a value, which may have these values.
pub record HasDomain (k : Kept) (spans : List Span) : Type 0 where
  pub front : List ℕ
  pub present : List ℕ
  pub choices : k.choices ≡ front ++ present
  pub linked : Scenario
  pub reads : reading (record k { choices = front }) ≡ Reads linked (length front) []
  pub blank : Blank
  pub is : slice_get (all_blanks (view_model k.model) linked.actions) (length present) ≡ Some blank
  pub domain : IfRead (answer k) (λ s. IsDomainOf (view_model k.model) s.actions blank spans)
