-- Values of one action: elements of an array, a divisor that is 0, and two constraints that never hold together.
use Rattle.std.specs.Prelude.{◌≡◌, ℕ, ℤ, pos, List, [], ◌∷◌, true, Option, Some, None}
use Rattle.pst_expr.specs.declared.tree.BinaryOp.TheVariants.{Implies, Equal, NotEqual, Add, Sub, Mul, Div, Rem, Greater}
use Rattle.pst_expr.specs.Tree.{Expression, Variable, Element}
use Rattle.pst_model.specs.declared.action.Field.{Field}
use Rattle.pst_model.specs.ConstraintTree.{ConstraintTree, SlotTree, Own}
use Rattle.pst_model.specs.ModelTree.{ModelTree}
use Rattle.pst_scen.specs.declared.tree.Fill.TheVariants as fill
use Rattle.pst_scen.specs.declared.act.Act.{Act}
use Rattle.pst_scen.specs.declared.scenario.Scenario.{Scenario}
use Rattle.pst_legal.specs.Slots.{act_slot}
use Rattle.pst_legal.specs.Constraints.{Holds, value_at, is_refused_at}
use Rattle.pst_legal.specs.Legal.{Legal}
use Rattle.pst_legal.specs.First.{IsLive}
use Rattle.pst_legal.specs.ValueReading.{Whole, read}
use Rattle.pst_trials.specs.Parts.{span, name, field_to, atomic_with, top, number, by, constraint, act_with, scenario_of, places}

-- component pss_top { action entry { .. } } with such fields and constraints
abbrev pub model : List Field → List ConstraintTree → ModelTree
model fields constraints = record {
  actions = atomic_with fields constraints ∷ [];
  objects = [];
  instances = top;
  pools = [];
  functions = [];
  served = [];
}

abbrev pub act : List ℤ → Act
act values = act_with 0 (Some 0) values

-- the root is an atomic action with these values
abbrev pub scenario : List ℤ → Scenario
scenario values = scenario_of 0 (record { parent = None; fill = fill.Leaf 0 } ∷ []) (act values ∷ []) []

-- the value of a constraint of the action at these values
abbrev pub at : ModelTree → ConstraintTree → List ℤ → Option ℤ
at m k values = value_at k (act_slot m (scenario values) 0 (act values))

-- ---- rand bit[4] a[3];

abbrev pub element_field : ℕ → Field
element_field index = record { name = name 9; domain = span 0 15 ∷ []; element = Some index }

abbrev pub elements : List SlotTree
elements = Own 0 ∷ Own 1 ∷ Own 2 ∷ []

abbrev pub a : Expression → Expression
a index = Element 0 3 index

-- a[0] == 1;
abbrev pub begins : ConstraintTree
begins = constraint (by Equal (a (number 0)) (number 1)) elements

-- foreach (a[i]) { i > 0 -> a[i] == a[i - 1] * 2; }, at one index
abbrev pub doubles_behind : ℕ → ConstraintTree
doubles_behind i = constraint (by Implies (by Greater (number i) (number 0)) (by Equal (a (number i)) (by Mul (a (by Sub (number i) (number 1))) (number 2)))) elements

-- foreach (a[i]) a[i] == a[i - 1] * 2; at one index
abbrev pub doubles : ℕ → ConstraintTree
doubles i = constraint (by Equal (a (number i)) (by Mul (a (by Sub (number i) (number 1))) (number 2))) elements

abbrev pub array : ModelTree
array = model (element_field 0 ∷ element_field 1 ∷ element_field 2 ∷ []) (begins ∷ doubles_behind 0 ∷ doubles_behind 1 ∷ doubles_behind 2 ∷ [])

abbrev pub doubled : List ℤ
doubled = pos 1 ∷ pos 2 ∷ pos 4 ∷ []

-- ---- rand bit[4] x, y;

abbrev pub x_is_three : ConstraintTree
x_is_three = constraint (by Equal (Variable 0) (number 3)) (Own 0 ∷ [])

abbrev pub y_is_zero : ConstraintTree
y_is_zero = constraint (by Equal (Variable 0) (number 0)) (Own 1 ∷ [])

-- x / y == 2
abbrev pub quotient : ConstraintTree
quotient = constraint (by Equal (by Div (Variable 0) (Variable 1)) (number 2)) (Own 0 ∷ Own 1 ∷ [])

-- y != 0 -> x / y == 2
abbrev pub guarded : ConstraintTree
guarded = constraint (by Implies (by NotEqual (Variable 1) (number 0)) (by Equal (by Div (Variable 0) (Variable 1)) (number 2))) (Own 0 ∷ Own 1 ∷ [])

abbrev pub divided : ConstraintTree → ModelTree
divided last = model (field_to 15 ∷ field_to 15 ∷ []) (x_is_three ∷ y_is_zero ∷ last ∷ [])

abbrev pub three_and_zero : List ℤ
three_and_zero = pos 3 ∷ pos 0 ∷ []

-- ---- rand bit[8] a, b;

-- (a + b) % 2 == r
abbrev pub leaves : ℕ → ConstraintTree
leaves r = constraint (by Equal (by Rem (by Add (Variable 0) (Variable 1)) (number 2)) (number r)) (Own 0 ∷ Own 1 ∷ [])

abbrev pub odd_and_even : ModelTree
odd_and_even = model (field_to 255 ∷ field_to 255 ∷ []) (leaves 0 ∷ leaves 1 ∷ [])

pub record ArraysAreTried : Type 0 where
  -- The words of seed 1 at places 1, 2 and 3 leave 7, 0 and 3 at 16 values.
  pub reads_elements : read array 0 1 0 (0 ∷ 10 ∷ 2 ∷ 1 ∷ []) ≡ Whole (scenario doubled)
  pub element_options : places array 0 1 0 (0 ∷ 10 ∷ 2 ∷ 1 ∷ []) ≡ Some 1 ∷ Some 16 ∷ Some 16 ∷ Some 16 ∷ []
  pub begins_at_one : at array begins doubled ≡ Some (pos 1)
  pub first_has_none_before : at array (doubles_behind 0) doubled ≡ Some (pos 1)
  pub second_doubles : at array (doubles_behind 1) doubled ≡ Some (pos 1)
  pub third_doubles : at array (doubles_behind 2) doubled ≡ Some (pos 1)
  pub third_is_more : at array (doubles_behind 2) (pos 1 ∷ pos 2 ∷ pos 3 ∷ []) ≡ Some (pos 0)
  pub begins_elsewhere : at array begins (pos 2 ∷ pos 4 ∷ pos 8 ∷ []) ≡ Some (pos 0)
  -- without the condition the first element has no value to double
  pub none_before_first : at array (doubles 0) doubled ≡ None
  pub elements_hold : Holds array (scenario doubled)
  pub elements_are_legal : Legal array 0 (scenario doubled)
  pub others_fail : Holds array (scenario (pos 1 ∷ pos 2 ∷ pos 3 ∷ [])) → ⊥
  -- a quotient by 0 has no value, and a constraint without a value doesn't hold
  pub no_quotient : at (divided quotient) quotient three_and_zero ≡ None
  pub quotient_fails : Holds (divided quotient) (scenario three_and_zero) → ⊥
  pub quotient_refused : is_refused_at quotient (act_slot (divided quotient) (scenario three_and_zero) 0 (act three_and_zero)) ≡ true
  pub guarded_value : at (divided guarded) guarded three_and_zero ≡ Some (pos 1)
  pub guarded_reads : read (divided guarded) 0 1 0 (0 ∷ 12 ∷ 0 ∷ []) ≡ Whole (scenario three_and_zero)
  pub guarded_is_legal : Legal (divided guarded) 0 (scenario three_and_zero)
  -- Lists of no value and of one are live; a list of both values is refused.
  pub root_is_live : IsLive odd_and_even 0 1 0 (0 ∷ [])
  pub one_value_is_live : IsLive odd_and_even 0 1 0 (0 ∷ 0 ∷ [])
  pub last_value_is_live : IsLive odd_and_even 0 1 0 (0 ∷ 255 ∷ [])
  pub no_value_beyond : IsLive odd_and_even 0 1 0 (0 ∷ 256 ∷ []) → ⊥
  pub two_values_are_refused : IsLive odd_and_even 0 1 0 (0 ∷ 0 ∷ 0 ∷ []) → ⊥
  pub empty_is_not_live : IsLive odd_and_even 0 1 0 [] → ⊥
