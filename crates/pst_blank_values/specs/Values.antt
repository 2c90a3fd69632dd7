-- The values of options.
use Rattle.std.specs.Prelude.{◌≡◌, ℕ, ℤ, pos, List, [], ◌∷◌, All, Option, Some, slice_get}
use Rattle.pst_expr.specs.Value.{variable_value}
use Rattle.pst_model.specs.ModelTree.{ModelTree}
use Rattle.pst_scen.specs.declared.act.Act.{Act}
use Rattle.pst_scen.specs.declared.act.Filled.{Filled}
use Rattle.pst_scen.specs.declared.scenario.Scenario.{Scenario}
use Rattle.pst_legal.specs.Blanks.{Blank, Instance, OfFirst, OfAct, OfOutput, OfClaim, option_value}
use Rattle.pst_built.specs.Onward.{Row}
use Rattle.pst_few_places.specs.Fillings.{all_blanks}
use Rattle.pst_blank_values.specs.Rows.{stands_in}

-- the value that an option of a blank is: of a claim the number of the instance
abbrev pub value_of_option : ModelTree → List Act → Blank → ℕ → ℤ
value_of_option m acts (Instance act claim) k = pos k
value_of_option m acts (OfFirst pool field) k = option_value m acts (OfFirst pool field) k
value_of_option m acts (OfAct act field) k = option_value m acts (OfAct act field) k
value_of_option m acts (OfOutput act reference field) k = option_value m acts (OfOutput act reference field) k
value_of_option m acts (OfClaim act claim field) k = option_value m acts (OfClaim act claim field) k

-- the values of blanks with these options
abbrev pub blank_values : ModelTree → List Act → List Blank → List ℕ → List (Option ℤ)
blank_values m acts [] chosen = []
blank_values m acts (blank ∷ blanks) [] = []
blank_values m acts (blank ∷ blanks) (k ∷ chosen) = Some (value_of_option m acts blank k) ∷ blank_values m acts blanks chosen

-- ---- scenarios that differ in values alone

-- nothing of an action is filled in yet
pub record IsBareAct (x : Act) : Type 0 where
  pub fields : x.fields ≡ []
  pub claims : x.claims ≡ []
  pub references : All (λ (filled : Filled). filled.values ≡ []) x.references

abbrev pub AreBare : List Act → Type 0
AreBare acts = All IsBareAct acts

pub record IsSameReference (f g : Filled) : Type 0 where
  pub pool : g.pool ≡ f.pool
  pub flow : g.flow ≡ f.flow
  pub link : g.link ≡ f.link

pub record IsSameAct (x y : Act) : Type 0 where
  pub action : y.action ≡ x.action
  pub instance : y.instance ≡ x.instance
  pub references : Row IsSameReference x.references y.references

-- the second scenario is the first one but for the values of its actions and of its first objects
pub record IsSameButValues (s t : Scenario) : Type 0 where
  pub nodes : t.nodes ≡ s.nodes
  pub acts : Row IsSameAct s.actions t.actions

-- the second scenario is the first one with these values in its blanks
pub record IsWithValues (m : ModelTree) (u : Scenario) (values : List (Option ℤ)) (t : Scenario) : Type 0 where
  pub same : IsSameButValues u t
  pub stands : (i : ℕ) (blank : Blank) → slice_get (all_blanks m u) i ≡ Some blank → stands_in t blank ≡ variable_value values i
